pub mod Tests
pub mod Message
pub mod Acting
