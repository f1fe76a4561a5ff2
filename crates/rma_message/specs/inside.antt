pub mod Open
pub mod Queue
pub mod Live
pub mod Matched
pub mod RunMessages
