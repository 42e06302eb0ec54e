pub mod Detect
pub mod Preamble
pub mod Header
