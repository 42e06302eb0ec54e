pub mod Joined
pub mod Routes
pub mod Runs
