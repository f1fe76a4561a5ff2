pub mod WindowsLemmas
pub mod WholeLemmas
