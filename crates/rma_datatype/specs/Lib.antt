pub mod Basic
pub mod Operation
