pub mod FaultLemmas
pub mod NameLemmas
pub mod MemberLemmas
pub mod RoundLemmas
pub mod PartLemmas
