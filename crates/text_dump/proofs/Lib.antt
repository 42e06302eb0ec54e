pub mod StateLaws
pub mod RulesLaws
pub mod OpenLaws
pub mod NextLaws
pub mod Demand3
pub mod LineLaws
