pub mod Walks
pub mod Region
pub mod Layout
pub mod Distance
