pub mod Outcome
pub mod Source
pub mod Step
pub mod inside
