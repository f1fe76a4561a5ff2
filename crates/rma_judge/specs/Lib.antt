pub use Rattle.rma_call.specs.Call
pub mod Latest
pub mod Naming
pub mod Names
pub mod Types
pub mod Judging
pub mod Calls
pub mod inside
