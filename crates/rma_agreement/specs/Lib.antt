pub mod Argument
pub mod Collective
pub mod Round
pub mod Balance
pub mod inside
