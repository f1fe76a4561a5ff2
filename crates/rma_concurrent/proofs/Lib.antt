pub mod ListLemmas
pub mod OrderLemmas
pub mod ExposureLemmas
pub mod EpochLemmas
