pub mod OrderLemmas
pub mod WithinLemmas
