pub mod Printing
pub mod Facts
pub mod Cases
