pub mod Asked
pub mod Chain
pub mod inside
