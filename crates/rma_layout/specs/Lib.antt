pub mod Touched
pub mod Layout
pub mod Refusal
pub mod inside
pub use Rattle.rma_base.specs.Limits
pub use Rattle.rma_bytes.specs.Runs
pub use Rattle.rma_typemap.specs.Typemap
