pub mod Opening
pub mod Closing
pub mod Matching
pub mod Fault
pub mod Edge
pub mod inside
