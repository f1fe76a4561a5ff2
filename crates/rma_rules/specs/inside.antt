pub mod Step
pub mod Lists
