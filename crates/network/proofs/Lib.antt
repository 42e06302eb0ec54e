pub mod Reading
pub mod Valid
