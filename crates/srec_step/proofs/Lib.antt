pub mod RecordGapLaws
