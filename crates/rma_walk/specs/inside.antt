pub mod Run
pub mod Front
pub mod Inbox
pub mod Pending
pub mod Search
pub mod Stop
