pub mod Line
pub mod Whole
