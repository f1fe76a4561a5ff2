pub mod AwaitedLemmas
pub mod GroupLemmas
pub mod BelowLemmas
pub mod CompleteLemmas
pub mod LinkLemmas
pub mod RootLemmas
