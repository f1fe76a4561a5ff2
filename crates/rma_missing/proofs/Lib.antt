mod NameCountLemmas
mod ByRankLemmas
pub mod MissingLemmas
