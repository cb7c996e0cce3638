pub mod Decided
pub mod Found
