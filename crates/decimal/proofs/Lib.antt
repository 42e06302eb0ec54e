pub mod Power
pub mod Laws
pub mod Reading
pub mod Leading
pub mod Starred
pub mod FrontCount
pub mod FrontValue
