pub mod Stays
pub mod Readings
pub mod Boxes
pub mod ExactlyWhen
pub mod Lent
pub mod Play
pub mod Premises
pub mod Accident
