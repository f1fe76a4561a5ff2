pub mod Runs
pub mod Layout
pub mod inside
