pub mod Calls
pub mod Open
pub mod Range
pub mod Reason
pub mod Reaching
pub mod inside
