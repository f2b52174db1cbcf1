pub mod CallLaws
pub mod Agreement
