pub mod Output
pub mod Writing
pub mod Copying
