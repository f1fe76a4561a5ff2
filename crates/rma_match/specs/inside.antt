pub mod Groups
pub mod Awaited
pub mod Live
