pub mod Layers
pub mod Refusals
pub mod Looks
pub mod Merges
pub mod Facts
pub mod Forms
pub mod Agreement
pub mod Examples
