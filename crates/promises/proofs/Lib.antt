pub mod Invariant
pub mod Routers
pub mod RouterStays
pub mod Demand3
pub mod Played
