pub mod FreeLaws
pub mod TurnLaws
pub mod LoopLaws
