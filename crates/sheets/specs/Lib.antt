pub mod Sheets
pub mod Facts
pub mod Cases
