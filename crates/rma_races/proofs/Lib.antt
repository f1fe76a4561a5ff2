pub mod CallLemmas
pub mod TakingLemmas
pub mod StepLemmas
pub mod AdvanceLemmas
pub mod NewLemmas
pub mod AskLemmas
pub mod RoleLemmas
pub mod AllLemmas
