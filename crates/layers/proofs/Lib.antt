pub mod LayerLaws
pub mod ShownLaws
