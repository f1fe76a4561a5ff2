pub mod ChainLemmas
pub mod DeedLemmas
pub mod FollowLemmas
pub mod FoundLemmas
pub mod ListLemmas
pub mod PlaceLemmas
pub mod WithinLemmas
