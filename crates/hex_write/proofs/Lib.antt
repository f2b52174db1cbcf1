pub mod PutLaws
pub mod BlockLaws
