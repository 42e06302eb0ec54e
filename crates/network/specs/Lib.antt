pub mod Address
pub mod Prefix
