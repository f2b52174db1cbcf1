pub mod ReadLaws
mod SumLaws
mod WholeLaws
