pub mod SizeLaws
pub mod LeadingLaws
pub mod RowLaws
