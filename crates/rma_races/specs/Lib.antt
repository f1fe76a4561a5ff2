pub mod Run
pub mod inside
