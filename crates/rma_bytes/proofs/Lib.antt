pub mod RunLemmas
pub mod OrderLemmas
pub mod IndexLemmas
pub mod WalkLemmas
pub mod RegionLemmas
