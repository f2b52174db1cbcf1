pub mod EntryLaws
pub mod LeadingLaws
pub mod TurnLaws
