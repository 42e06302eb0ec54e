pub mod Entries
pub mod Layout
pub mod Lent
pub mod Normal
pub mod Parts
pub mod Whole
