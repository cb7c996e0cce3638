pub mod Client
pub mod Judged
pub mod Spots
pub mod Found
