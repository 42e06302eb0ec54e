pub mod TestLaws
pub mod ListLaws
pub mod CharLaws
pub mod CharsLaws
pub mod ReadableLaws
pub mod EncodeLaws
pub mod LibraryLaws
pub mod EdgeLaws
