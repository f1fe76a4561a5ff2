pub use Rattle.rma_log.specs.Ends
pub mod Naming
pub mod Requests
pub mod Touched
pub mod Kept
