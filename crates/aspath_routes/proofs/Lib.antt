pub mod Answers
pub mod Behind
pub mod Joined
pub mod Routes
pub mod Runs
pub mod Write
