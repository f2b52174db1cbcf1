pub mod Sures
