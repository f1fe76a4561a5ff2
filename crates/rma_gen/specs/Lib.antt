pub mod Trial
pub mod TrialLogs
pub mod inside
