pub mod Cover
pub mod inside
