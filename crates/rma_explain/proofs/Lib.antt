pub mod MadeLemmas
pub mod LineLemmas
pub mod NameLemmas
pub mod MemoryLemmas
pub mod CutLemmas
pub mod OneLemmas
