pub mod Feeding
pub mod Outcome
pub mod Run
pub mod Study
pub mod Verdict
pub mod Ended
