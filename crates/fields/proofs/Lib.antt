pub mod SpaceLaws
pub mod BlankLaws
pub mod OctetLaws
pub mod FrontLaws
pub mod BitsLaws
pub mod FieldLaws
pub mod NumberLaws
