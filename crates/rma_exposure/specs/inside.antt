pub mod Epochs
pub mod Places
