pub mod White
pub mod TokensLeft
