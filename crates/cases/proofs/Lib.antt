pub mod CaseLaws
mod AnswerLaws
