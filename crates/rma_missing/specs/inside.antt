pub mod NameCount
pub mod ByRank
pub mod Missing
