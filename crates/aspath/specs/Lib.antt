pub mod Lists
pub mod Queries
pub mod Record
pub mod Segments
