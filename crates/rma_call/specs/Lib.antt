pub mod Assertion
pub mod Rma
pub mod Call
pub mod Group
pub mod inside
