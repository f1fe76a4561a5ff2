pub mod AloneLemmas
pub mod LineLemmas
pub mod CallLemmas
