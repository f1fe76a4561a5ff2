-- How many copies of its old datatype a constructor makes.
use Rattle.std.specs.Prelude.{ℕ, ◌*◌, ◌≤◌, pos, ◌≤ℤ◌, length, sum_by, All, true, ◌≡◌}
use Rattle.std.specs.List.{list_all}
use Rattle.rma_base.specs.Limits.{address_limit}
use Rattle.rma_datatype.specs.declared.make.Make.{Make}
use Rattle.rma_datatype.specs.declared.make.Make.TheVariants.{Contiguous, Vector, Hvector, Indexed, Hindexed, IndexedBlock, Struct, Resized, Subarray}
use Rattle.rma_typemap.specs.Constructors.{times}
use Rattle.rma_typemap.specs.Array.{is_part, cuts_of, whole_of_cuts, part_of_cuts}

-- the number of copies of the one old datatype; a struct has many and is not asked
abbrev pub copies_of : Make → ℕ
copies_of (Contiguous count old) = times count
copies_of (Vector count len stride old) = times count * times len
copies_of (Hvector count len stride old) = times count * times len
copies_of (Indexed old blocks) = sum_by (λ b. times b.length) blocks
copies_of (Hindexed old blocks) = sum_by (λ b. times b.length) blocks
copies_of (IndexedBlock len old displacements) = length displacements * times len
copies_of (Struct members) = 0
copies_of (Resized old low extent) = 1
copies_of (Subarray order old dimensions) = part_of_cuts (cuts_of order dimensions)

-- a constructor with one old datatype, with no negative count, and whose part lies in the array
abbrev pub IsCounted : Make → Type 0
IsCounted (Contiguous count old) = pos 0 ≤ℤ count
IsCounted (Vector count len stride old) = (pos 0 ≤ℤ count) × (pos 0 ≤ℤ len)
IsCounted (Hvector count len stride old) = (pos 0 ≤ℤ count) × (pos 0 ≤ℤ len)
IsCounted (Indexed old blocks) = All (λ b. pos 0 ≤ℤ b.length) blocks
IsCounted (Hindexed old blocks) = All (λ b. pos 0 ≤ℤ b.length) blocks
IsCounted (IndexedBlock len old displacements) = pos 0 ≤ℤ len
IsCounted (Struct members) = ⊥
IsCounted (Resized old low extent) = Unit {0}
IsCounted (Subarray order old dimensions) = list_all is_part dimensions ≡ true

-- the same, where the array is not too large either
abbrev pub IsSingle : Make → Type 0
IsSingle (Subarray order old dimensions) = (list_all is_part dimensions ≡ true) × (whole_of_cuts (cuts_of order dimensions) ≤ address_limit)
IsSingle other = IsCounted other
