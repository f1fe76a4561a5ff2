-- Parts of arrays (MPI 4.0, "Datatypes", the subarray constructor).
use Rattle.std.specs.Prelude.{ℕ, ◌*◌, ◌+◌, ◌^◌, ◌≤◌, ◌<◌, map, ℤ, pos, ◌-ℤ◌, List, [], ◌∷◌, Bool, ◌&&◌, int_le}
use Rattle.rma_datatype.specs.declared.make.Dimension.{Dimension}
use Rattle.rma_datatype.specs.declared.make.Order.{Order}
use Rattle.rma_typemap.specs.declared.array.Cut.{Cut}
use Rattle.rma_typemap.specs.Constructors.{times, slowest_first}

abbrev pub is_between : ℤ → ℤ → ℤ → Bool
is_between low x high = int_le low x && int_le x high

-- whether the part of a dimension has an element, and so the whole has one, and the part lies in the whole
abbrev pub is_part : Dimension → Bool
is_part d = is_between (pos 1) d.part d.size && is_between (pos 0) d.start (d.size -ℤ d.part)

-- the number of elements of the part
abbrev pub part_count : List Dimension → ℕ
part_count [] = 1
part_count (d ∷ ds) = times d.part * part_count ds

-- the dimensions of the part of an array, as natural numbers
abbrev pub cut_of : Dimension → Cut
cut_of d = record { whole = times d.size; part = times d.part; start = times d.start }

abbrev pub cuts_of : Order → List Dimension → List Cut
cuts_of order dimensions = map cut_of (slowest_first order dimensions)

abbrev pub whole_of_cuts : List Cut → ℕ
whole_of_cuts [] = 1
whole_of_cuts (c ∷ cs) = c.whole * whole_of_cuts cs

abbrev pub part_of_cuts : List Cut → ℕ
part_of_cuts [] = 1
part_of_cuts (c ∷ cs) = c.part * part_of_cuts cs

-- the part of a dimension lies in it
pub record IsCut (c : Cut) : Type 0 where
  pub some : 1 ≤ c.part
  pub within : c.start + c.part ≤ c.whole
  pub small : c.whole < 2 ^ 31
