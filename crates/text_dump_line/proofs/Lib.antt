pub mod LineLaws
pub mod PrefixLaws
