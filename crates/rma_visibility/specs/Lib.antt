pub mod Visibility
pub mod inside
