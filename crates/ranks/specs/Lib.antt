pub mod Rank
pub mod Digits
pub mod Clear
