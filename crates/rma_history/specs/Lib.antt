pub mod History
pub mod inside
