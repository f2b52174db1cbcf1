pub mod AboveLaws
pub mod TapeTextLaws
