pub mod Sorted
pub mod Search
pub mod Reached
pub mod Run
pub mod Live
pub mod Overlap
