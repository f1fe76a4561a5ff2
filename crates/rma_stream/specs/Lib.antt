pub use Rattle.rma_lex.specs.Checked
pub use Rattle.rma_lex.specs.Line
pub use Rattle.rma_log.specs.Ends
pub use Rattle.rma_sync.specs.Matching
pub mod Findings
pub mod Strict
pub mod Explained
pub mod inside
