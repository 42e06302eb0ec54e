pub mod Shapes
pub mod Moments
pub mod Places
pub mod Paths
pub mod Range
pub mod Starred
