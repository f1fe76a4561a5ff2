pub mod CallCount
pub mod Round
pub mod Scan
