pub mod inside
pub mod Reached
