pub mod ListLaws
pub mod LineLaws
pub mod WordLaws
pub mod SearchLaws
