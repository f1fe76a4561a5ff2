pub mod ListLemmas
pub mod OrderLemmas
pub mod RaceLemmas
pub mod RoleLemmas
pub mod NameLemmas
