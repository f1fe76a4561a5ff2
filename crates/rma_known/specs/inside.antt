pub mod Dated
pub mod Templates
