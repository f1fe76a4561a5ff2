mod OpeningLemmas
mod ProgressLemmas
mod RunLemmas
mod SaysLemmas
mod PullLemmas
mod TrialLemmas
