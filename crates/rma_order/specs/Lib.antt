pub use Rattle.rma_run.specs.Run
pub mod RunLinks
pub mod Impossible
