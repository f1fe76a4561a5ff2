pub mod NumberLemmas
pub mod KeptLemmas
pub mod MemberLemmas
pub mod EdgeLemmas
pub mod MeetLemmas
pub mod RowLemmas
mod OwnLemmas
pub mod StepLemmas
