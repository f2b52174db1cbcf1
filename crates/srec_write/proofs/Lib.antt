pub mod RecordRowLaws
