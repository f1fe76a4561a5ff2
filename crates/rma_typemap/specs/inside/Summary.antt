-- The summary of a typemap, and that of copies, of one typemap after another, and of other markers.
use Rattle.std.specs.Prelude.{ℕ, zero, suc, ◌+◌, ◌*◌, max, ℤ, pos, ◌+ℤ◌, ◌*ℤ◌, ◌-ℤ◌, List, [], ◌∷◌, map, length, sum_by, Option, Some, None, Bool, true, false, ◌&&◌, ◌==◌, int_le, neg_ℤ, fold}
use Rattle.std.specs.Ordering.{int_eq}
use Rattle.std.specs.Int.{int_min, int_max}
use Rattle.rma_base.specs.Limits.{address_limit}
use Rattle.rma_datatype.specs.declared.basic.Basic.{Basic}
use Rattle.rma_datatype.specs.Basic.{basic_size}
use Rattle.rma_typemap.specs.declared.span.Span.{Span}
use Rattle.rma_typemap.specs.declared.blocks.Blocks.{Blocks}
use Rattle.rma_typemap.specs.declared.summary.Summary.{Summary}
use Rattle.rma_typemap.specs.declared.made.Made.{Made}
use Rattle.rma_datatype.specs.declared.make.Dimension.{Dimension}
use Rattle.rma_datatype.specs.declared.make.Member.{Member}
use Rattle.rma_datatype.specs.declared.make.Block.{Block}
use Rattle.rma_datatype.specs.declared.make.ByteBlock.{ByteBlock}
use Rattle.rma_typemap.specs.declared.array.Cut.{Cut}
use Rattle.rma_datatype.specs.declared.make.Make.{Make}
use Rattle.rma_datatype.specs.declared.make.Make.TheVariants.{Contiguous, Vector, Hvector, Indexed, Hindexed, IndexedBlock, Struct, Resized, Subarray}
use Rattle.rma_typemap.specs.Array.{cuts_of, whole_of_cuts}
use Rattle.rma_typemap.specs.Bounds.{first_of_both, raised_where_there}
use Rattle.rma_typemap.specs.Constructors.{whole, times}
use Rattle.rma_typemap.specs.Typemap.{Typemap, elements, lower_marks, upper_marks, start_of, end_of, alignment_of, gap, gaps_after, end_after}

-- ---- the span of some intervals

abbrev pub span : ℤ → ℤ → Span
span low high = record { low = low; high = high }

-- the span of two, where they are there
abbrev pub joined_span : Option Span → Option Span → Option Span
joined_span None b = b
joined_span (Some a) None = Some a
joined_span (Some a) (Some b) = Some (span (int_min a.low b.low) (int_max a.high b.high))

abbrev pub moved_span : ℤ → Option Span → Option Span
moved_span by None = None
moved_span by (Some a) = Some (span (by +ℤ a.low) (by +ℤ a.high))

-- the span of one and of another moved by so much, with all between
abbrev pub stretched_span : ℤ → Option Span → Option Span
stretched_span by None = None
stretched_span by (Some a) = Some (span (a.low +ℤ int_min (pos 0) by) (a.high +ℤ int_max (pos 0) by))

-- the least start and the greatest end of some intervals
abbrev pub span_of : List (ℤ × ℤ) → Option Span
span_of [] = None
span_of (x ∷ xs) = joined_span (Some (span x.0 x.1)) (span_of xs)

-- ---- blocks of elements

abbrev pub make_blocks : ℕ → ℤ → ℤ → Blocks
make_blocks gaps first last = record { gaps = gaps; first = first; last = last }

abbrev pub joined_blocks : Option Blocks → Option Blocks → Option Blocks
joined_blocks None b = b
joined_blocks (Some a) None = Some a
joined_blocks (Some a) (Some b) = Some (make_blocks (a.gaps + gap a.last b.first + b.gaps) a.first b.last)

abbrev pub moved_blocks : ℤ → Option Blocks → Option Blocks
moved_blocks by None = None
moved_blocks by (Some a) = Some (make_blocks a.gaps (by +ℤ a.first) (by +ℤ a.last))

-- the blocks of one and n more, each a stride after the one before it
abbrev pub repeated_blocks : ℕ → ℤ → Option Blocks → Option Blocks
repeated_blocks n stride None = None
repeated_blocks n stride (Some a) = Some (make_blocks (a.gaps + n * (a.gaps + gap a.last (a.first +ℤ stride))) a.first (a.last +ℤ pos n *ℤ stride))

-- the elements in order, as blocks
abbrev pub blocks_of : List (Basic × ℤ) → Option Blocks
blocks_of [] = None
blocks_of (e ∷ es) = Some (make_blocks (gaps_after (end_of e) es) (start_of e) (end_after (end_of e) es))

-- where elements start and end
abbrev pub intervals : List (Basic × ℤ) → List (ℤ × ℤ)
intervals es = map (λ e. (start_of e, end_of e)) es

-- markers, as intervals without a byte
abbrev pub points : List ℤ → List (ℤ × ℤ)
points xs = map (λ x. (x, x)) xs

-- ---- summaries

-- the summary of elements and markers
abbrev pub summary_of : List (Basic × ℤ) → List ℤ → List ℤ → Summary
summary_of es lowers uppers = record {
  entries = length es;
  size = sum_by (λ e. basic_size e.0) es;
  alignment = alignment_of es;
  bytes = span_of (intervals es);
  lower = span_of (points lowers);
  upper = span_of (points uppers);
  blocks = blocks_of es;
}

-- the summary of a typemap
unfoldable pub summary : Typemap → Summary
summary parts = summary_of (elements parts) (lower_marks parts) (upper_marks parts)

-- the summary of nothing
abbrev pub empty_summary : Summary
empty_summary = record { entries = 0; size = 0; alignment = 0; bytes = None; lower = None; upper = None; blocks = None }

-- one typemap after another
abbrev pub joined : Summary → Summary → Summary
joined a b = record {
  entries = a.entries + b.entries;
  size = a.size + b.size;
  alignment = max a.alignment b.alignment;
  bytes = joined_span a.bytes b.bytes;
  lower = joined_span a.lower b.lower;
  upper = joined_span a.upper b.upper;
  blocks = joined_blocks a.blocks b.blocks;
}

-- a typemap moved by a number of bytes
abbrev pub displaced : ℤ → Summary → Summary
displaced by a = record {
  entries = a.entries;
  size = a.size;
  alignment = a.alignment;
  bytes = moved_span by a.bytes;
  lower = moved_span by a.lower;
  upper = moved_span by a.upper;
  blocks = moved_blocks by a.blocks;
}

-- a typemap and n more copies of it, each a stride after the one before it
abbrev pub with_more : ℕ → ℤ → Summary → Summary
with_more n stride a = record {
  entries = a.entries + n * a.entries;
  size = a.size + n * a.size;
  alignment = a.alignment;
  bytes = stretched_span (pos n *ℤ stride) a.bytes;
  lower = stretched_span (pos n *ℤ stride) a.lower;
  upper = stretched_span (pos n *ℤ stride) a.upper;
  blocks = repeated_blocks n stride a.blocks;
}

-- n copies of a typemap, the first where it is and each a stride after the one before it
abbrev pub repeated : ℕ → ℤ → Summary → Summary
repeated zero stride a = empty_summary
repeated (suc n) stride a = with_more n stride a

-- a typemap with one marker of each bound in place of its own
abbrev pub marked : ℤ → ℤ → Summary → Summary
marked low high a = record a { lower = Some (span low low); upper = Some (span high high) }

-- ---- bounds

abbrev pub low_of : Option Span → Option ℤ
low_of None = None
low_of (Some a) = Some a.low

abbrev pub high_of : Option Span → Option ℤ
high_of None = None
high_of (Some a) = Some a.high

-- the bounds and the extent of what has this summary
abbrev pub lower_end : Summary → ℤ
lower_end a = first_of_both (low_of a.lower) (low_of a.bytes)

abbrev pub upper_end : Summary → ℤ
upper_end a = first_of_both (high_of a.upper) (raised_where_there (lower_end a) a.alignment (high_of a.bytes))

abbrev pub extent_of : Summary → ℤ
extent_of a = upper_end a -ℤ lower_end a

-- the part of an array, of which each element has the summary and the extent; the first dimension varies slowest
abbrev pub part_of : ℤ → List Dimension → Summary → Summary
part_of extent [] a = a
part_of extent (d ∷ ds) a =
    displaced (d.start *ℤ (whole ds *ℤ extent)) (repeated (times d.part) (whole ds *ℤ extent) (part_of extent ds a))

-- ---- the space, and blocks

-- whether a span lies in the space
abbrev pub span_is_in_space : Option Span → Bool
span_is_in_space None = true
span_is_in_space (Some a) = int_le (neg_ℤ (pos address_limit)) a.low && int_le a.high (pos address_limit)

abbrev pub summary_is_in_space : Summary → Bool
summary_is_in_space a = span_is_in_space a.bytes && span_is_in_space a.lower && span_is_in_space a.upper

abbrev pub blocks_in : Option Blocks → ℕ
blocks_in None = 0
blocks_in (Some a) = 1 + a.gaps

-- whether there are blocks, from `low` to `high`
abbrev pub blocks_fill : ℤ → ℤ → Option Blocks → Bool
blocks_fill low high None = false
blocks_fill low high (Some a) = int_eq a.first low && int_eq a.last high

abbrev pub summary_is_solid : Summary → Bool
summary_is_solid a = (blocks_in a.blocks == 1) && blocks_fill (lower_end a) (upper_end a) a.blocks && int_eq (extent_of a) (pos a.size)

-- ---- the constructors, by the summary and the extent of the old typemap

abbrev pub vector_of : ℕ → ℕ → ℤ → Summary → Summary
vector_of n len stride a = repeated n stride (repeated len (extent_of a) a)

-- a block of copies
abbrev pub block_of : Summary → ℕ → ℤ → Summary
block_of a len at = displaced at (repeated len (extent_of a) a)

-- blocks one after another, each with its number of copies and its displacement in bytes
abbrev pub with_block : Summary → Summary → ℕ × ℤ → Summary
with_block a done b = joined done (block_of a b.0 b.1)

abbrev pub indexed_of : Summary → List (ℕ × ℤ) → Summary
indexed_of a blocks = fold (with_block a) empty_summary blocks

-- members one after another, each with the summary of its own old typemap
abbrev pub with_member : Summary → Member × Summary → Summary
with_member done m = joined done (block_of m.1 (times m.0.length) m.0.displacement)

abbrev pub struct_of : List (Member × Summary) → Summary
struct_of members = fold with_member empty_summary members

-- what is known of a datatype with this summary
abbrev pub made_of_summary : Summary → Made
made_of_summary a = record {
  size = a.size;
  lb = lower_end a;
  ub = upper_end a;
  extent = extent_of a;
  entries = a.entries;
  blocks = blocks_in a.blocks;
  solid = summary_is_solid a;
}

-- the blocks of the constructors
abbrev pub block_in_extents : ℤ → Block → ℕ × ℤ
block_in_extents e b = (times b.length, b.displacement *ℤ e)

abbrev pub block_in_bytes : ByteBlock → ℕ × ℤ
block_in_bytes b = (times b.length, b.displacement)

abbrev pub block_at : ℤ → ℕ → ℤ → ℕ × ℤ
block_at e len at = (len, at *ℤ e)

-- the part of an array, by its cuts
abbrev pub cut_part : ℤ → List Cut → Summary → Summary
cut_part extent [] a = a
cut_part extent (c ∷ cs) a =
    displaced (pos c.start *ℤ (pos (whole_of_cuts cs) *ℤ extent)) (repeated c.part (pos (whole_of_cuts cs) *ℤ extent) (cut_part extent cs a))

-- the part of an array, with the bounds of the whole
abbrev pub marked_part : ℤ → List Cut → Summary → Summary
marked_part extent cs a = marked (pos 0) (pos (whole_of_cuts cs) *ℤ extent) (cut_part extent cs a)

-- what a constructor makes of one old datatype with this summary
abbrev pub built : Make → Summary → Summary
built (Contiguous count old) a = repeated (times count) (extent_of a) a
built (Vector count len stride old) a = vector_of (times count) (times len) (stride *ℤ extent_of a) a
built (Hvector count len stride old) a = vector_of (times count) (times len) stride a
built (Indexed old blocks) a = indexed_of a (map (block_in_extents (extent_of a)) blocks)
built (Hindexed old blocks) a = indexed_of a (map block_in_bytes blocks)
built (IndexedBlock len old displacements) a = indexed_of a (map (block_at (extent_of a) (times len)) displacements)
built (Struct members) a = empty_summary
built (Resized old low extent) a = marked low (low +ℤ extent) a
built (Subarray order old dimensions) a = marked_part (extent_of a) (cuts_of order dimensions) a
