pub mod Listed
pub mod Concurrent
pub mod inside
