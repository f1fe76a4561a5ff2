pub mod Reason
pub mod Asserted
pub mod Starts
pub mod Stores
pub mod Updates
pub mod Locks
pub mod Broken
pub mod inside
