mod NumberLemmas
mod NameLemmas
mod LimitLemmas
mod AuditLemmas
mod StrictLemmas
mod ExplainLemmas
mod TrialLemmas
mod CommandLemmas
