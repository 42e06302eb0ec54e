pub mod Table
pub mod Years
pub mod Months
pub mod Range
pub mod Callers
