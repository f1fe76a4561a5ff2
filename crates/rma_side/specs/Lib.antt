pub mod Side
pub mod Sides
pub mod inside
