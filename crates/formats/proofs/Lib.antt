pub mod AcrossFormats
pub mod ChoiceLaws
