pub mod Naming
pub mod Requests
pub mod BookState
pub mod CallEvent
