pub mod GroupLemmas
pub mod CallListLemmas
pub mod EntryLemmas
