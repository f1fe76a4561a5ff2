pub use Rattle.rma_lex.specs.Checked
pub use Rattle.rma_lex.specs.Line
pub mod Calls
pub mod Logs
pub mod Ends
pub mod inside
