-- The entries that a call touches in a buffer (MPI 4.0, "Datatypes", the typemap and its addresses).
use Rattle.std.specs.Prelude.{ℕ, ℤ, ◌+ℤ◌, ◌*ℤ◌, List, map, take}
use Rattle.rma_datatype.specs.declared.basic.Basic.{Basic}
use Rattle.rma_typemap.specs.Typemap.{Typemap, copies_at, elements}
use Rattle.rma_typemap.specs.Bounds.{extent}
use Rattle.rma_typemap.specs.Constructors.{numbers}

-- the typemap of copies of a datatype, the first at an address, and each an extent after the one before it
unfoldable pub placed : Typemap → ℕ → ℤ → Typemap
placed parts count address = copies_at (map (λ j. address +ℤ j *ℤ extent parts) (numbers count)) parts

-- the first elements of such copies
unfoldable pub touched : Typemap → ℕ → ℤ → ℕ → List (Basic × ℤ)
touched parts count address entries = take entries (elements (placed parts count address))
