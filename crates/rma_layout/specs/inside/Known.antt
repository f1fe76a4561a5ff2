-- Layouts that came before, and whether they may be moved.
use Rattle.std.specs.Prelude.{◌≡◌, ◌<◌, ℕ, ℤ, pos, ◌≤ℤ◌, ◌<ℤ◌, List, length, slice_get, ◌-◌, Option, Some, None, All}
use Rattle.rma_base.specs.Limits.{address_limit}
use Rattle.rma_datatype.specs.declared.basic.Basic.{Basic}
use Rattle.rma_bytes.specs.declared.run.Run.{Run}
use Rattle.rma_bytes.specs.Runs.{HasByte, end_of}
use Rattle.rma_type.specs.declared.id.TypeId.{TypeId}
use Rattle.rma_type.specs.declared.origin.Origin.{Origin}
use Rattle.rma_type.specs.Table.{typemaps, typemap_in}
use Rattle.rma_layout.specs.Touched.{touched}
use Rattle.rma_layout.specs.Layout.{IsLayoutOf}
use Rattle.rma_layout.specs.Refusal.{lowest, refusal}
use Rattle.rma_layout.specs.declared.space.Space.{Space}
use Rattle.rma_layout.specs.declared.known_layout.KnownLayout.{KnownLayout}
use Rattle.rma_layout.specs.declared.ends.Ends.{Ends}

-- the elements that are touched in a buffer of a table's datatype
abbrev pub touched_in : List Origin → TypeId → ℕ → ℤ → ℕ → List (Basic × ℤ)
touched_in origins datatype count address entries = touched (typemap_in (typemaps origins) datatype) count address entries

-- where the bytes of runs begin and end, where they have one
abbrev pub AreEnds : List Run → Option Ends → Type 0
AreEnds runs None = length runs ≡ 0
AreEnds runs (Some ends) = (first : Run) × (last : Run) × (slice_get runs 0 ≡ Some first) × (slice_get runs (length runs - 1) ≡ Some last) × (ends.start ≡ first.start) × (ends.end ≡ end_of last)

-- a layout that came before is one of a buffer that was not refused
pub record IsKnown (origins : List Origin) (known : KnownLayout) : Type 0 where
  pub within : known.datatype.0 < length origins
  pub low : pos 0 ≤ℤ known.address
  pub high : known.address ≤ℤ pos address_limit
  pub space : Space
  pub taken : refusal space (touched_in origins known.datatype known.count known.address known.entries) known.entries ≡ None
  pub is : IsLayoutOf (touched_in origins known.datatype known.count known.address known.entries) known.layout
  pub ends : AreEnds known.layout.runs known.ends

abbrev pub IsKnownIf : List Origin → Option KnownLayout → Type 0
IsKnownIf origins None = Unit {0}
IsKnownIf origins (Some known) = IsKnown origins known

abbrev pub AreKnown : List Origin → List (Option KnownLayout) → Type 0
AreKnown origins slots = All (IsKnownIf origins) slots

-- each byte lies in the space
abbrev pub LieIn : Space → List Run → Type 0
LieIn space runs = (b : ℤ) → HasByte runs b → (lowest space ≤ℤ b) × (b <ℤ pos address_limit)
