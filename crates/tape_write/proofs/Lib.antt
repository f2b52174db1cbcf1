pub mod TapeRowLaws
