pub mod Lists
pub mod Characters
