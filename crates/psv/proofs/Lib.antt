pub mod Printing
pub mod Longest
pub mod Copied
