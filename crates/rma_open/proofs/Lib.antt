pub mod TestLemmas
pub mod EventLemmas
pub mod MemberLemmas
pub mod RangeLemmas
