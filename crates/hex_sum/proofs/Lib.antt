pub mod SumLaws
pub mod FaultLaws
