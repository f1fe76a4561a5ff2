pub mod EntryLemmas
pub mod KnownLemmas
pub mod ElsewhereLemmas
pub mod ReadingLemmas
pub mod LineLemmas
pub mod OutcomeLemmas
