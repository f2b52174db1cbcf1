pub mod SheetSpans
