pub mod Gathered
pub mod Started
pub mod Updated
pub mod Stored
pub mod Held
