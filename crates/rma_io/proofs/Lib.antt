pub mod CountLemmas
pub mod BufferLemmas
pub mod LogBytesLemmas
pub mod OpenLogLemmas
pub mod ScheduleLemmas
pub mod SourceLemmas
