pub mod SiteLemmas
pub mod ReaderLemmas
