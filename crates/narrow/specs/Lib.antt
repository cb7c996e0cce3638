pub mod Single
pub mod Faithful
pub mod OneResult
