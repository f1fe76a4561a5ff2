pub use Rattle.rma_rules.specs.Access
pub mod Touch
pub mod Touches
