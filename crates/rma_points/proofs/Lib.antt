pub mod OptionLemmas
pub mod NumberLemmas
pub mod CreationLemmas
pub mod EpochLemmas
pub mod SpanLemmas
pub mod AccessLemmas
pub mod AskedLemmas
