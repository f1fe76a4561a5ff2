pub mod Windows
pub mod Epochs
pub mod Parts
pub mod Live
