pub mod Lists
pub mod Parted
pub mod Queries
pub mod Record
