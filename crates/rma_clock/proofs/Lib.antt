pub mod StepLemmas
pub mod RowLemmas
mod BlockLemmas
mod StoredLemmas
pub mod BeforeLemmas
pub mod MeetLemmas
pub mod BuilderLemmas
pub mod SettleLemmas
pub mod ReachedLemmas
pub mod LiveLemmas
pub mod DenseLemmas
