pub mod MarkSearchLaws
pub mod OrLaws
pub mod CoverLaws
