pub mod DetectLaws
pub mod PreambleLaws
pub mod HeaderLaws
pub mod AppendLaws
