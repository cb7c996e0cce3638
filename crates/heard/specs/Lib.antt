pub mod Heard
pub mod Ids
pub mod Facts
pub mod Bare
