pub mod LinkLemmas
pub mod SameLinks
mod ToldLemmas
mod StepLemmas
pub mod StuckLemmas
pub mod ImpossibleLemmas
