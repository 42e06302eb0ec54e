pub mod Routing
