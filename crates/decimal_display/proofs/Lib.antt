pub mod Printed
pub mod ReadBack
pub mod Examples
