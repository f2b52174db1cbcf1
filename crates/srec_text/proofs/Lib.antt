pub mod PieceLaws
pub mod LengthLaws
