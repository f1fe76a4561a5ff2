pub mod Rounds
pub mod Lists
pub mod Met
pub mod Step
