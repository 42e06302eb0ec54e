pub mod Examples
pub mod Lists
pub mod Routing
