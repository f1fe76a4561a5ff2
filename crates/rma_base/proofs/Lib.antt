pub mod NameLemmas
pub mod SiteLemmas
pub mod RankSetLemmas
pub mod SameLemmas
