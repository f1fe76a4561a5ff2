pub mod WordLemmas
pub mod SlotLemmas
pub mod TemplateLemmas
pub mod AlikeLemmas
