pub mod BufferLemmas
pub mod JsonLemmas
pub mod RangeLemmas
pub mod TextLemmas
