-- What became of a buffer that was laid out.
use Rattle.std.specs.Prelude.{◌≡◌, ℕ, List, Option, Some, None, Result, Ok, Err}
use Rattle.rma_bytes.specs.Layout.{Layout}
use Rattle.rma_layout.specs.declared.fault.LayoutFault.{LayoutFault}
use Rattle.rma_layout.specs.declared.space.Space.{Space}
use Rattle.rma_layout.specs.declared.space.Space.TheVariants.{Local}
use Rattle.rma_layout.specs.Refusal.{refusal}
use Rattle.rma_typemap.specs.Typemap.{Typemap}
use Rattle.rma_buffer.specs.declared.operand.Operand.{Operand}
use Rattle.rma_buffer.specs.Calls.{layout_in}
use Rattle.rma_buffer.specs.Rules.{touched_in}

-- why the first elements of a buffer have no layout, if they have none
abbrev pub fault_in : List Typemap → ℕ → Space → Operand → Option LayoutFault
fault_in maps m space it = refusal space (touched_in maps m it) m

-- the buffer was laid out, or refused
abbrev pub IsPlaced : List Typemap → ℕ → Space → Operand → Result Layout LayoutFault → Type 0
IsPlaced maps m space it (Ok layout) = (layout ≡ layout_in maps m it) × (fault_in maps m space it ≡ None)
IsPlaced maps m space it (Err fault) = fault_in maps m space it ≡ Some fault

-- so was a buffer of the caller, if there is one
abbrev pub ArePlaced : List Typemap → ℕ → Option Operand → Option (Result Layout LayoutFault) → Type 0
ArePlaced maps m None None = Unit {0}
ArePlaced maps m None (Some placed) = ⊥
ArePlaced maps m (Some it) None = ⊥
ArePlaced maps m (Some it) (Some placed) = IsPlaced maps m Local it placed
