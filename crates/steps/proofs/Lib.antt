pub mod ChosenLaws
pub mod SureLaws
