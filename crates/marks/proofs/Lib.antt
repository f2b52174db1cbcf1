pub mod FormLaws
pub mod RowLaws
pub mod FlagLaws
