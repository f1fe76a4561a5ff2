pub mod FirstIndexLemmas
pub mod DeclarationLemmas
