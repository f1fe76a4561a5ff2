-- The words that the proofs of this crate speak with.
pub use Rattle.rma_base.specs.Limits.{address_limit, element_limit}
pub use Rattle.rma_datatype.specs.Basic.{basic_size}
pub use Rattle.rma_datatype.specs.declared.basic.Basic.{Basic}
pub use Rattle.rma_datatype.specs.declared.basic.Basic.TheVariants.{SignedChar}
pub use Rattle.rma_datatype.specs.declared.make.Block.{Block}
pub use Rattle.rma_datatype.specs.declared.make.ByteBlock.{ByteBlock}
pub use Rattle.rma_datatype.specs.declared.make.Dimension.{Dimension}
pub use Rattle.rma_datatype.specs.declared.make.Make.{Make}
pub use Rattle.rma_datatype.specs.declared.make.Make.TheVariants.{Contiguous, Hindexed, Hvector, Indexed, IndexedBlock, Resized, Struct, Subarray, Vector}
pub use Rattle.rma_datatype.specs.declared.make.Member.{Member}
pub use Rattle.rma_datatype.specs.declared.make.Order.{Order}
pub use Rattle.rma_datatype.specs.declared.make.Order.TheVariants.{FirstFastest, LastFastest}
pub use Rattle.rma_typemap.specs.Array.{cut_of, cuts_of, is_between, is_part, part_of_cuts, whole_of_cuts}
pub use Rattle.rma_typemap.specs.Bounds.{fills, greater, greatest, least, lesser}
unfoldable pub use Rattle.rma_typemap.specs.Bounds.{entry_count, extent, is_solid, lower_bound, signature, size, upper_bound}
pub use Rattle.rma_typemap.specs.Constructors.{block_displacements, byte_block_displacements, constructed, indices, members_of, numbers, slowest_first, times, whole, with_bounds, without_marks}
unfoldable pub use Rattle.rma_typemap.specs.Constructors.{contiguous, hindexed, hvector, indexed, indexed_block, resized, subarray, vector}
pub use Rattle.rma_typemap.specs.Made.{made_of}
unfoldable pub use Rattle.rma_typemap.specs.Signature.{copies}
pub use Rattle.rma_typemap.specs.Space.{entry_is_in_space, is_in_space}
unfoldable pub use Rattle.rma_typemap.specs.Space.{is_all_in_space}
pub use Rattle.rma_typemap.specs.Typemap.{Entry, Typemap, alignment_of, block_count, copies_at, copy_at, element, elements, elements_of, end_after, end_of, gaps_after, lower_mark, lower_marks, lowers_of, moved, start_of, upper_mark, upper_marks, uppers_of}
unfoldable pub use Rattle.rma_typemap.specs.Typemap.{gap}
pub use Rattle.rma_typemap.specs.declared.array.Cut.{Cut}
pub use Rattle.rma_typemap.specs.declared.blocks.Blocks.{Blocks}
pub use Rattle.rma_typemap.specs.declared.span.Span.{Span}
pub use Rattle.rma_typemap.specs.declared.summary.Summary.{Summary}
pub use Rattle.rma_typemap.specs.inside.Counts.{IsCounted, IsSingle, copies_of}
pub use Rattle.rma_typemap.specs.inside.Near.{BlocksAreFew, BlocksAreNear, IsAligned, IsNear, IsNearby, IsSound, SpanIsNear}
pub use Rattle.rma_typemap.specs.inside.Summary.{block_at, block_in_bytes, block_in_extents, blocks_fill, blocks_in, blocks_of, built, cut_part, displaced, empty_summary, extent_of, high_of, indexed_of, intervals, joined, joined_blocks, joined_span, low_of, lower_end, made_of_summary, make_blocks, marked, moved_blocks, moved_span, part_of, points, repeated, repeated_blocks, span, span_is_in_space, span_of, stretched_span, struct_of, summary_is_in_space, summary_is_solid, summary_of, upper_end, with_block, with_member, with_more}
unfoldable pub use Rattle.rma_typemap.specs.inside.Summary.{summary}
pub use Rattle.std.proofs.Math.Nat.{mul-le-mul_left, mul-le-mul_right}
pub use Rattle.std.proofs.lemmas.Bool.Decides.{Decides-and, Decides-int_eq, Decides-like, Decides-ltb, same_from_decides}
pub use Rattle.std.proofs.lemmas.Int.{clamps, ints, to_z-of_z}
pub use Rattle.std.proofs.lemmas.List.{append-nil, append_assoc, drop_all, drop_more, get_or-map, get_or-reverse, length-append, length-map, length-reverse, map-append, map_more, replicate-append-replicate, reverse-append}
pub use Rattle.std.proofs.lemmas.List.Sums.{fold_push, sum_by-append, sum_by-cons, sum_by_more, sum_by_more_le}
pub use Rattle.std.specs.Int.{int_max, int_min, w128, w32, w64}
pub use Rattle.std.specs.List.{list_all, range_with_len}
pub use Rattle.std.specs.Ordering.{int_eq}
