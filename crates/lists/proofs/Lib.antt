pub mod TestLaws
pub mod PartLaws
pub mod SearchLaws
pub mod OverLaws
pub mod OverIndexLaws
pub mod PendingLaws
pub mod ByteLaws
pub mod RenewLaws
