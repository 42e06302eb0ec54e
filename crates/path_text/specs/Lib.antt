pub mod Path
pub mod Walk
