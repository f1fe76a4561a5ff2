pub mod ListingLemmas
pub mod RankLemmas
pub mod FenceLemmas
