pub mod TypeLemmas
pub mod StateLemmas
pub mod CallLemmas
pub mod JudgingLemmas
pub mod RequestLemmas
pub mod AccessLemmas
