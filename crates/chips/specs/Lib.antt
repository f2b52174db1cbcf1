pub mod Shares
pub mod Boards
pub mod Refusals
pub mod Calls
pub mod Facts
pub mod Promises
