pub mod DealLaws
