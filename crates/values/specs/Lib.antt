pub mod Values
pub mod Listed
