pub mod DigitLaws
pub mod NumberLaws
pub mod DigitTableLaws
pub mod PairLaws
