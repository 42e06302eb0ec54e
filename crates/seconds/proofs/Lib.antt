pub mod Whole
pub mod Bits
pub mod Answers
pub mod Inverse
