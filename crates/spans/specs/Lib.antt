pub mod Spans
pub mod Facts
