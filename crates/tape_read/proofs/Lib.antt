pub mod LineFieldLaws
pub mod LineReadLaws
