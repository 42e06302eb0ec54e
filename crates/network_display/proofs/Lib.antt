pub mod Writing
pub mod RoundTrip
pub mod Rfc5952
pub mod Starred
