pub mod Reason
pub mod Change
pub mod Region
pub mod Fault
pub mod inside
