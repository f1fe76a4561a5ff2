pub mod Windows
pub mod Creating
