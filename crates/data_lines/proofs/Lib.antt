pub mod DataLineLaws
