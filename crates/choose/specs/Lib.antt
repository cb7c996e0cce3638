pub mod Callers
pub mod Choice
