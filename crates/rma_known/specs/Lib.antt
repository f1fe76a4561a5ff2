pub mod Split
pub mod Known
pub mod Elsewhere
pub mod inside
