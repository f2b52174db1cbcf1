pub mod Blocks
pub mod Cases
