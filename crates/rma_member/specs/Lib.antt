pub mod Declaration
pub mod Attribute
pub mod Member
pub mod Difference
pub mod inside
