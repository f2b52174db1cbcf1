pub mod CountLaws
mod NameLaws
mod NumberLaws
pub mod SameLaws
