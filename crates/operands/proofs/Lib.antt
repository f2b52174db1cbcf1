pub mod PartLaws
mod LeafLaws
