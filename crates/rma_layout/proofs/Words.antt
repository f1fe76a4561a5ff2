-- The words that the proofs of this crate speak with.
pub use Rattle.rma_base.specs.Limits.{address_limit, block_limit, element_limit}
pub use Rattle.rma_datatype.specs.Basic.{basic_size}
pub use Rattle.rma_datatype.specs.declared.basic.Basic.{Basic}
unfoldable pub use Rattle.rma_layout.specs.inside.Bytes.{span, bytes_of, bytes_in, moved, copies, breaks_from, end_from}
pub use Rattle.rma_layout.specs.inside.Bytes.{begins, breaks, typemap_bytes}
pub use Rattle.rma_layout.specs.inside.Output.{Appends, IsRefusal, IsSound, Refuses, sealed, written}
pub use Rattle.rma_layout.specs.declared.block.Block.{Block}
pub use Rattle.rma_layout.specs.declared.fault.LayoutError.{LayoutError}
pub use Rattle.rma_layout.specs.declared.fault.LayoutError.TheVariants.{Fault, Memory}
pub use Rattle.rma_layout.specs.declared.fault.LayoutFault.TheVariants.{OutOfSpace, TooManyBlocks, TooManyElements}
pub use Rattle.rma_layout.specs.declared.output.Output.{Output}
unfoldable pub use Rattle.rma_typemap.specs.Typemap.{gap}
pub use Rattle.rma_typemap.specs.Typemap.{Typemap, elements, end_of, start_of}
pub use Rattle.std.proofs.lemmas.Int.{clamps, ints}
pub use Rattle.std.proofs.lemmas.List.{append-nil, append_assoc, append_cancel_left, drop_all, drop_more, get_or_default, length-append, length-drop, length-map, length-take, length-take-le, map-append, take-append-drop, take-append-le, take-take, take_all, take_more}
pub use Rattle.std.proofs.lemmas.Bool.{false≢true}
pub use Rattle.std.proofs.lemmas.Bool.Decides.{Decides-int_eq}
pub use Rattle.std.proofs.lemmas.List.{get_or-take}
pub use Rattle.rma_layout.specs.declared.step.Row.{Row}
pub use Rattle.rma_layout.specs.declared.step.Step.{Step}
pub use Rattle.rma_layout.specs.declared.step.Step.TheVariants.{Again, Copies}
pub use Rattle.rma_layout.specs.inside.Steps.{after_step, copies_along, has_part, member_steps, a_row, row_bytes, rows, single_steps, start_of_part, step_bytes, steps_by, steps_of, steps_over}
unfoldable pub use Rattle.rma_layout.specs.inside.Steps.{after_steps, steps_in}
pub use Rattle.std.specs.List.{list_all}
pub use Rattle.std.specs.Prelude.{int_lt}
pub use Rattle.std.proofs.lemmas.List.{nil_from_length}
