pub mod ClosedLemmas
pub mod CallLemmas
pub mod NeedLemmas
pub mod StateLemmas
pub mod ShowLemmas
pub mod LeastLemmas
pub mod AskedLemmas
pub mod CountLemmas
