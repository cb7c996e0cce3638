pub mod Judged
pub mod Written
pub mod Facts
