pub mod Summary
pub mod Near
pub mod Counts
