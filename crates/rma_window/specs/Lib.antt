pub mod Creation
pub mod Windows
pub mod inside
