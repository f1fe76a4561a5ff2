-- The words that the proofs of this crate speak with.
pub use Rattle.rma_datatype.specs.declared.basic.Basic.{Basic}
pub use Rattle.rma_type.specs.Signature.{BeginsWith, IsComponentOf}
pub use Rattle.rma_type.specs.declared.component.Component.{Component}
pub use Rattle.rma_buffer.specs.Layouts.{is_same}
pub use Rattle.std.specs.List.{list_all, list_any}
pub use Rattle.std.proofs.lemmas.List.{append-nil}
pub use Rattle.std.proofs.lemmas.List.Elements.{All-cons, All-nil, All-append, All-head, All-tail}
