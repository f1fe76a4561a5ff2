pub mod Fenced
pub mod Laws
pub mod inside
