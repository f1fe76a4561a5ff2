pub mod Stored
pub mod Origin
