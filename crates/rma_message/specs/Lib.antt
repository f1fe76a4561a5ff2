pub mod Key
pub mod Receive
pub mod RankMessages
pub mod Matching
pub mod Messages
pub mod RunMessages
pub mod Source
pub mod inside
