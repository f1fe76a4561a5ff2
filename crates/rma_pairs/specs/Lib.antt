pub mod Names
pub mod Race
pub mod Races
