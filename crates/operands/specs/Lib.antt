pub mod Trees
pub mod Reading
pub mod Values
pub mod Parts
