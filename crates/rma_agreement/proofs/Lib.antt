pub mod ArgumentLemmas
pub mod WalkLemmas
pub mod CountLemmas
pub mod KindLemmas
mod AgreementLemmas
mod RowLemmas
mod PlaceLemmas
mod RegularLemmas
