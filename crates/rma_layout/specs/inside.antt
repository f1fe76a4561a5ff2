pub mod Bytes
pub mod Output
pub mod Steps
pub mod Frames
pub mod Known
