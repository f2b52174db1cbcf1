pub mod SpanLaws
pub mod OriginLaws
