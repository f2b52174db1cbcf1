mod TextLaws
mod LeafLaws
mod FitLaws
mod PrintLaws
mod ReadingLaws
pub mod NormalForms
