pub mod HoldLaws
pub mod SessionLaws
pub mod FormLaws
