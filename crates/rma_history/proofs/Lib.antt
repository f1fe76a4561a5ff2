pub mod HorizonLemmas
pub mod HullLemmas
pub mod KeptLemmas
pub mod OverlapLemmas
pub mod PassedLemmas
pub mod ReachLemmas
pub mod SharedLemmas
