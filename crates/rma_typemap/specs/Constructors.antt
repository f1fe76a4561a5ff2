-- The typemaps of the constructors (MPI 4.0, "Datatypes"): copies of the old typemap at the displacements of each.
use Rattle.std.specs.Prelude.{ℕ, ℤ, pos, negsuc, ◌+ℤ◌, ◌*ℤ◌, List, [], ◌∷◌, ◌++◌, map, flat_map, reverse}
use Rattle.std.specs.List.{range_with_len}
use Rattle.rma_datatype.specs.declared.make.Block.{Block}
use Rattle.rma_datatype.specs.declared.make.ByteBlock.{ByteBlock}
use Rattle.rma_datatype.specs.declared.make.Member.{Member}
use Rattle.rma_datatype.specs.declared.make.Dimension.{Dimension}
use Rattle.rma_datatype.specs.declared.make.Order.{Order}
use Rattle.rma_datatype.specs.declared.make.Order.TheVariants.{LastFastest, FirstFastest}
use Rattle.rma_datatype.specs.declared.make.Make.{Make}
use Rattle.rma_datatype.specs.declared.make.Make.TheVariants.{Contiguous, Vector, Hvector, Indexed, Hindexed, IndexedBlock, Struct, Resized, Subarray}
use Rattle.rma_typemap.specs.Typemap.{Typemap, element, lower_mark, upper_mark, copies_at}
use Rattle.rma_typemap.specs.Bounds.{extent}

-- as many as a count says, and none where it is negative, which no datatype has
abbrev pub times : ℤ → ℕ
times (pos n) = n
times (negsuc n) = 0

-- the integers from 0 to n - 1
abbrev pub numbers : ℕ → List ℤ
numbers n = map pos (range_with_len 0 n)

-- ---- contiguous and vector

unfoldable pub contiguous : ℕ → Typemap → Typemap
contiguous n old = copies_at (map (λ i. i *ℤ extent old) (numbers n)) old

unfoldable pub vector : ℕ → ℕ → ℤ → Typemap → Typemap
vector n len stride old =
    copies_at (flat_map (λ i. map (λ j. (i *ℤ stride +ℤ j) *ℤ extent old) (numbers len)) (numbers n)) old

unfoldable pub hvector : ℕ → ℕ → ℤ → Typemap → Typemap
hvector n len stride old =
    copies_at (flat_map (λ i. map (λ j. i *ℤ stride +ℤ j *ℤ extent old) (numbers len)) (numbers n)) old

-- ---- blocks

-- the copies of a block whose displacement is counted in extents, and in bytes
abbrev pub block_displacements : ℤ → ℕ → ℤ → List ℤ
block_displacements extent len at = map (λ j. (at +ℤ j) *ℤ extent) (numbers len)

abbrev pub byte_block_displacements : ℤ → ℕ → ℤ → List ℤ
byte_block_displacements extent len at = map (λ j. at +ℤ j *ℤ extent) (numbers len)

unfoldable pub indexed : List Block → Typemap → Typemap
indexed blocks old = copies_at (flat_map (λ b. block_displacements (extent old) (times b.length) b.displacement) blocks) old

unfoldable pub hindexed : List ByteBlock → Typemap → Typemap
hindexed blocks old = copies_at (flat_map (λ b. byte_block_displacements (extent old) (times b.length) b.displacement) blocks) old

unfoldable pub indexed_block : ℕ → List ℤ → Typemap → Typemap
indexed_block len displacements old = copies_at (flat_map (λ at. block_displacements (extent old) len at) displacements) old

-- the members one after another, each of its own old typemap
abbrev pub members_of : List Member → List Typemap → Typemap
members_of [] old_maps = []
members_of (m ∷ ms) [] = []
members_of (m ∷ ms) (old ∷ old_maps) = copies_at (byte_block_displacements (extent old) (times m.length) m.displacement) old ++ members_of ms old_maps

-- ---- other markers

-- a typemap without its markers
abbrev pub without_marks : Typemap → Typemap
without_marks [] = []
without_marks (element basic at ∷ parts) = element basic at ∷ without_marks parts
without_marks (lower_mark at ∷ parts) = without_marks parts
without_marks (upper_mark at ∷ parts) = without_marks parts

-- a typemap with no markers but one of each bound
abbrev pub with_bounds : ℤ → ℤ → Typemap → Typemap
with_bounds low high parts = without_marks parts ++ lower_mark low ∷ upper_mark high ∷ []

unfoldable pub resized : ℤ → ℤ → Typemap → Typemap
resized low extent old = with_bounds low (low +ℤ extent) old

-- ---- subarray

-- the number of elements of the whole array
abbrev pub whole : List Dimension → ℤ
whole [] = pos 1
whole (d ∷ ds) = d.size *ℤ whole ds

-- the indices in the whole array of the elements of the part, the first dimension varying slowest
abbrev pub indices : List Dimension → List ℤ
indices [] = pos 0 ∷ []
indices (d ∷ ds) = flat_map (λ i. map (λ p. (d.start +ℤ i) *ℤ whole ds +ℤ p) (indices ds)) (numbers (times d.part))

-- the dimensions with the slowest first
abbrev pub slowest_first : Order → List Dimension → List Dimension
slowest_first LastFastest dimensions = dimensions
slowest_first FirstFastest dimensions = reverse dimensions

unfoldable pub subarray : List Dimension → Typemap → Typemap
subarray dimensions old =
    with_bounds (pos 0) (whole dimensions *ℤ extent old) (copies_at (map (λ p. p *ℤ extent old) (indices dimensions)) old)

-- ---- all nine

-- the first of some typemaps
abbrev pub first_of : List Typemap → Typemap
first_of [] = []
first_of (old ∷ old_maps) = old

-- the typemap that a constructor makes of its old ones
abbrev pub constructed : Make → List Typemap → Typemap
constructed (Contiguous count old) old_maps = contiguous (times count) (first_of old_maps)
constructed (Vector count len stride old) old_maps = vector (times count) (times len) stride (first_of old_maps)
constructed (Hvector count len stride old) old_maps = hvector (times count) (times len) stride (first_of old_maps)
constructed (Indexed old blocks) old_maps = indexed blocks (first_of old_maps)
constructed (Hindexed old blocks) old_maps = hindexed blocks (first_of old_maps)
constructed (IndexedBlock len old displacements) old_maps = indexed_block (times len) displacements (first_of old_maps)
constructed (Struct members) old_maps = members_of members old_maps
constructed (Resized old low extent) old_maps = resized low extent (first_of old_maps)
constructed (Subarray order old dimensions) old_maps = subarray (slowest_first order dimensions) (first_of old_maps)
