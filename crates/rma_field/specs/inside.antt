pub mod Listed
pub mod Keys
pub mod Found
