pub mod Words
pub mod Continued
