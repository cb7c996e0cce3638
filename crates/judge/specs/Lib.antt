pub mod Judged
pub mod Understood
