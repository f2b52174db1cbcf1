pub mod GatherLaws
pub mod ShapeReadLaws
