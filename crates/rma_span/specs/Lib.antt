pub mod Span
pub mod inside
