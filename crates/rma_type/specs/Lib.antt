pub mod Names
pub mod Table
pub mod Refusal
pub mod Change
pub mod FirstTable
pub mod Signature
pub mod inside
pub use Rattle.rma_base.specs.Limits
pub use Rattle.rma_typemap.specs.Typemap
pub use Rattle.rma_typemap.specs.Bounds
pub use Rattle.rma_typemap.specs.Made
pub use Rattle.rma_typemap.specs.Signature as SignatureCopies
