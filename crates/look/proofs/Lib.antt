pub mod SourceLaws
pub mod PartLaws
