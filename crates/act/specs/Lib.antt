pub mod Head
pub mod Answer
pub mod Serve
