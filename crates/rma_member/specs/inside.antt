pub mod FirstIndex
pub mod Member
pub mod Nothing
