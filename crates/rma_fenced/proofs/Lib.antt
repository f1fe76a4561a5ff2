pub mod PhaseLemmas
pub mod FenceLemmas
pub mod LawLemmas
pub mod ExposureLemmas
