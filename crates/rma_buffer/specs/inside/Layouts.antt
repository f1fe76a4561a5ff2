-- The buffers of a call, laid out, and the last of the reasons for which they may be bad.
use Rattle.std.specs.Prelude.{◌≡◌, ℕ, ◌≤◌, Bool, true, false, ◌||◌, List, [], ◌∷◌, Option, Some, None, option_map, Result, Ok, Err, IfSome, if◌then◌else◌}
use Rattle.rma_base.specs.declared.form_reason.FormReason.{FormReason}
use Rattle.rma_base.specs.declared.form_reason.FormReason.TheVariants as reason
use Rattle.rma_bytes.specs.Layout.{Layout}
use Rattle.rma_call.specs.declared.rma.RmaKind.{RmaKind}
use Rattle.rma_call.specs.declared.rma.RmaKind.TheVariants.{Get}
use Rattle.rma_layout.specs.declared.fault.LayoutFault.{LayoutFault}
use Rattle.rma_layout.specs.declared.fault.LayoutFault.TheVariants.{TooManyBlocks}
use Rattle.rma_typemap.specs.Typemap.{Typemap}
use Rattle.rma_buffer.specs.declared.layouts.Layouts.{Layouts}
use Rattle.rma_buffer.specs.declared.operand.Operand.{Operand}
use Rattle.rma_buffer.specs.declared.operand.Operands.{Operands}
use Rattle.rma_buffer.specs.Calls.{layout_in}
use Rattle.rma_buffer.specs.Operands.{entries_in}
use Rattle.rma_buffer.specs.Rules.{first_that_holds, have_many_blocks, leave_space, overlap, uses_origin}

-- the layouts of the first elements of the buffers
abbrev pub layouts_in : List Typemap → RmaKind → ℕ → Operands → Layouts
layouts_in maps kind m it = record {
  target = layout_in maps m it.target;
  origin = if uses_origin kind then Some (layout_in maps m it.origin) else None;
  result = option_map (layout_in maps m) it.result;
  compare = option_map (layout_in maps m) it.compare;
}

-- the origin, if it is touched
abbrev pub touched_origin : RmaKind → Operands → Option Operand
touched_origin kind it = if uses_origin kind then Some it.origin else None

-- a buffer has so many elements
abbrev pub HasEnough : List Typemap → ℕ → Operand → Type 0
HasEnough maps m it = m ≤ entries_in maps it

-- so has each buffer that is touched
pub record HaveEnough (maps : List Typemap) (kind : RmaKind) (m : ℕ) (it : Operands) : Type 0 where
  pub target : HasEnough maps m it.target
  pub origin : uses_origin kind ≡ true → HasEnough maps m it.origin
  pub result : IfSome it.result (HasEnough maps m)
  pub compare : IfSome it.compare (HasEnough maps m)

-- why the layouts do not stand, if they do not
abbrev pub space_reason : List Typemap → RmaKind → ℕ → Operands → Option FormReason
space_reason maps kind m it = first_that_holds ((reason.TooManyBlocks, have_many_blocks maps kind m it) ∷ (reason.OutOfSpace, leave_space maps kind m it) ∷ [])

-- the last of the reasons
abbrev pub bytes_reason : List Typemap → RmaKind → ℕ → Operands → Option FormReason
bytes_reason maps kind m it = first_that_holds (
    (reason.TooManyBlocks, have_many_blocks maps kind m it)
    ∷ (reason.OutOfSpace, leave_space maps kind m it)
    ∷ (reason.OverlappingType, overlap maps kind m it)
    ∷ [])

-- why a buffer was refused, if it was
abbrev pub fault_of : Result Layout LayoutFault → Option LayoutFault
fault_of (Ok layout) = None
fault_of (Err fault) = Some fault

-- the layout, if it was not
abbrev pub layout_of : Result Layout LayoutFault → Option Layout
layout_of (Ok layout) = Some layout
layout_of (Err fault) = None

-- the refusal of two that comes first in the order of the reasons
abbrev pub worse : Option LayoutFault → Option LayoutFault → Option LayoutFault
worse (Some TooManyBlocks) second = Some TooManyBlocks
worse None second = second
worse (Some first) (Some TooManyBlocks) = Some TooManyBlocks
worse (Some first) second = Some first

-- two elements share a byte in a layout, if there is one
abbrev pub overlaps_if : Option Layout → Bool
overlaps_if None = false
overlaps_if (Some layout) = layout.overlaps

-- two elements share a byte in a buffer that is written
abbrev pub overlaps_in : RmaKind → Layouts → Bool
overlaps_in Get it = overlaps_if it.origin || overlaps_if it.result
overlaps_in _ it = it.target.overlaps || overlaps_if it.result
