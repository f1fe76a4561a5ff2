-- What a layout says of the entries that are touched (MPI 4.0, "Datatypes").
use Rattle.std.specs.Prelude.{◌≡◌, ◌≢◌, ℤ, ◌≤ℤ◌, ◌<ℤ◌, List, [], ◌∷◌, All, Option, Some, None, ◌⊎◌, ◌↔◌, IsTrue}
use Rattle.rma_datatype.specs.declared.basic.Basic.{Basic}
use Rattle.rma_bytes.specs.Layout.{Layout}
use Rattle.rma_bytes.specs.Runs.{HasByte, IsCanonical}
use Rattle.rma_typemap.specs.Typemap.{start_of, end_of}

-- the number b is a byte of an element
abbrev pub IsByteOfElement : Basic × ℤ → ℤ → Type 0
IsByteOfElement e b = (start_of e ≤ℤ b) × (b <ℤ end_of e)

-- b is a byte of one of the elements
abbrev pub TouchesByte : List (Basic × ℤ) → ℤ → Type 0
TouchesByte [] b = ⊥
TouchesByte (e ∷ es) b = IsByteOfElement e b ⊎ TouchesByte es b

-- two elements, at different places of the list, have a byte in common
abbrev pub SharesByte : List (Basic × ℤ) → Type 0
SharesByte [] = ⊥
SharesByte (e ∷ es) = ((b : ℤ) × IsByteOfElement e b × TouchesByte es b) ⊎ SharesByte es

-- the basic datatype that all elements have, where there is an element and they all have one
abbrev pub IsElementOf : List (Basic × ℤ) → Option Basic → Type 0
IsElementOf es None = (basic : Basic) → es ≢ [] → ¬ All (λ e. e.0 ≡ basic) es
IsElementOf es (Some basic) = (es ≢ []) × All (λ e. e.0 ≡ basic) es

-- the layout of touched elements
pub record IsLayoutOf (es : List (Basic × ℤ)) (layout : Layout) : Type 0 where
  pub bytes : (b : ℤ) → HasByte layout.runs b ↔ TouchesByte es b
  pub canonical : IsCanonical layout.runs
  pub overlaps : IsTrue layout.overlaps ↔ SharesByte es
  pub element : IsElementOf es layout.element
