pub mod Next
pub mod Held
pub mod Member
pub mod Settled
