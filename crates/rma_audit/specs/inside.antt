pub mod Opening
pub mod Progress
pub mod Runs
