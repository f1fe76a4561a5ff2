pub mod SeenLemmas
pub mod ItemLemmas
pub mod FieldLemmas
