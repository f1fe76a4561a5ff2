pub mod Explanation
pub mod inside
