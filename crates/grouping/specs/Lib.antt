pub mod Grouping
pub mod Conflicts
