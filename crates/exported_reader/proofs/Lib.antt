pub mod Fitting
pub mod Stored
pub mod Same
pub mod Written
pub mod Demand3
