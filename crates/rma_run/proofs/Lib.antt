mod CheckLemmas
pub mod WalkLemmas
pub mod CallLemmas
pub mod ContainLemmas
pub mod PositionLemmas
