pub mod DigitLaws
pub mod PackLaws
pub mod PaintLaws
pub mod SpanLaws
pub mod SpareLaws
pub mod CountLaws
