pub mod TokensLaws
pub mod PlainLaws
pub mod PathLaws
pub mod OriginLaws
