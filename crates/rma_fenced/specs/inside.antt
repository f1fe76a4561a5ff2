pub mod Fences
pub mod Keys
