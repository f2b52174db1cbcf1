pub mod VisibleLaws
