-- Typemaps: what a datatype says of the memory at an address (MPI 4.0, "Datatypes").
use Rattle.std.specs.Prelude.{ℕ, ◌+◌, max, ℤ, pos, ◌+ℤ◌, List, [], ◌∷◌, map, flat_map, if◌then◌else◌}
use Rattle.std.specs.Ordering.{int_eq}
use Rattle.rma_datatype.specs.declared.basic.Basic.{Basic}
use Rattle.rma_datatype.specs.Basic.{basic_size}

-- a part of a typemap: an element at a displacement, or a marker of the lower or of the upper bound
pub data Entry : Type 0 where
  element : Basic → ℤ → Entry
  lower_mark : ℤ → Entry
  upper_mark : ℤ → Entry

-- a typemap
abbrev pub Typemap : Type 0
Typemap = List Entry

-- a part, moved by a number of bytes
abbrev pub moved : ℤ → Entry → Entry
moved by (element basic at) = element basic (by +ℤ at)
moved by (lower_mark at) = lower_mark (by +ℤ at)
moved by (upper_mark at) = upper_mark (by +ℤ at)

-- the copy of a typemap at a displacement
abbrev pub copy_at : ℤ → Typemap → Typemap
copy_at by parts = map (moved by) parts

-- the copies of a typemap at displacements, in their order
abbrev pub copies_at : List ℤ → Typemap → Typemap
copies_at displacements parts = flat_map (λ by. copy_at by parts) displacements

-- an element of a part, with its displacement
abbrev pub elements_of : Entry → List (Basic × ℤ)
elements_of (element basic at) = (basic, at) ∷ []
elements_of (lower_mark at) = []
elements_of (upper_mark at) = []

abbrev pub lowers_of : Entry → List ℤ
lowers_of (element basic at) = []
lowers_of (lower_mark at) = at ∷ []
lowers_of (upper_mark at) = []

abbrev pub uppers_of : Entry → List ℤ
uppers_of (element basic at) = []
uppers_of (lower_mark at) = []
uppers_of (upper_mark at) = at ∷ []

-- the elements in order
abbrev pub elements : Typemap → List (Basic × ℤ)
elements parts = flat_map elements_of parts

-- the displacements of the markers of the lower bound
abbrev pub lower_marks : Typemap → List ℤ
lower_marks parts = flat_map lowers_of parts

-- the displacements of the markers of the upper bound
abbrev pub upper_marks : Typemap → List ℤ
upper_marks parts = flat_map uppers_of parts

-- where an element starts, and where it ends
abbrev pub start_of : Basic × ℤ → ℤ
start_of e = e.1

abbrev pub end_of : Basic × ℤ → ℤ
end_of e = e.1 +ℤ pos (basic_size e.0)

-- the greatest alignment of elements, which is the greatest size; 0 without elements
abbrev pub alignment_of : List (Basic × ℤ) → ℕ
alignment_of [] = 0
alignment_of (e ∷ es) = max (basic_size e.0) (alignment_of es)

-- 1 where something that starts at `start` leaves a gap to what ends at `at`, or overlaps it, and 0 where it starts there
unfoldable pub gap : ℤ → ℤ → ℕ
gap at start = if int_eq start at then 0 else 1

-- how many elements do not start where the one before them ends, the one before the first ending at `at`
abbrev pub gaps_after : ℤ → List (Basic × ℤ) → ℕ
gaps_after at [] = 0
gaps_after at (e ∷ es) = gap at (start_of e) + gaps_after (end_of e) es

-- where the last element ends, or `at`
abbrev pub end_after : ℤ → List (Basic × ℤ) → ℤ
end_after at [] = at
end_after at (e ∷ es) = end_after (end_of e) es

-- the blocks of elements, counted in order: one starts at the first element, and at each that does not start where the one
-- before it ends
abbrev pub block_count : List (Basic × ℤ) → ℕ
block_count [] = 0
block_count (e ∷ es) = 1 + gaps_after (end_of e) es
