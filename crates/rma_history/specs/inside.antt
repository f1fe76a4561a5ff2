pub mod Hull
pub mod Overlaps
pub mod Passed
