pub mod NumberLemmas
pub mod FirstLemmas
pub mod KeptLemmas
