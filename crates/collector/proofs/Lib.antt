pub mod Helpers
pub mod Kept
pub mod Calls
