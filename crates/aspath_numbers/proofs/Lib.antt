pub mod Among
pub mod Ends
pub mod Last
