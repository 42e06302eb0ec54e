pub mod Parts
pub mod Ipv4
