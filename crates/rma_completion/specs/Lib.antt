pub mod Completing
pub mod Done
pub mod inside
