pub mod AllowedLaws
pub mod ReadLaws
