pub mod Matches
pub mod Membership
pub mod Source
pub mod inside
