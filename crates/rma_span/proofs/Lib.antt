pub mod CallLemmas
pub mod SpanLemmas
pub mod OriginLemmas
pub mod AccessLemmas
pub mod FreedLemmas
pub mod ListedLemmas
