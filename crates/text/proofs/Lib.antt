pub mod LengthLaws
pub mod ListLaws
pub mod WhiteLaws
pub mod PlaceLaws
pub mod TrimLaws
pub mod TokenLaws
pub mod DecodedLaws
