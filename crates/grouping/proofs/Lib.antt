pub mod LayLaws
pub mod ImageLaws
pub mod AcceptedLaws
pub mod Grouping
pub mod Conflicts
