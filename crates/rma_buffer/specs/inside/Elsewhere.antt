-- Calls that are moved: where they are made, and how far their buffers move.
use Rattle.std.specs.Prelude.{◌≡◌, ℕ, ◌≤◌, ℤ, pos, ◌-ℤ◌, List, [], ◌∷◌, map, Option, Some, None}
use Rattle.rma_base.specs.Limits.{address_limit}
use Rattle.rma_bytes.specs.Layout.{Layout, layout_by}
use Rattle.rma_bytes.specs.Runs.{moved}
use Rattle.rma_call.specs.declared.local.LocalCall.{LocalCall}
use Rattle.rma_call.specs.declared.rma.RmaCall.{RmaCall}
use Rattle.rma_call.specs.declared.rma.RmaKind.{RmaKind}
use Rattle.rma_call.specs.declared.rma.RmaKind.TheVariants.{Put, Get, Accumulate, GetAccumulate, FetchAndOp, CompareAndSwap}
use Rattle.rma_layout.specs.declared.space.Space.TheVariants.{Local}
use Rattle.rma_layout.specs.inside.Known.{LieIn}
use Rattle.rma_buffer.specs.declared.elsewhere.Place.{Place}

-- the addresses of the buffers of a call, in the order of its line
abbrev pub addresses_of : RmaKind → Place → List ℕ
addresses_of Put it = it.origin ∷ []
addresses_of Get it = it.origin ∷ []
addresses_of (Accumulate op) it = it.origin ∷ []
addresses_of (GetAccumulate op) it = it.origin ∷ it.result ∷ []
addresses_of (FetchAndOp op) it = it.origin ∷ it.result ∷ []
addresses_of CompareAndSwap it = it.origin ∷ it.compare ∷ it.result ∷ []

-- no address lies beyond the space
pub record IsWithin (it : Place) : Type 0 where
  pub origin : it.origin ≤ address_limit
  pub result : it.result ≤ address_limit
  pub compare : it.compare ≤ address_limit

-- the numbers of a call of a kind say that it is made there
pub record IsPlaceOf (kind : RmaKind) (numbers : List ℕ) (it : Place) : Type 0 where
  pub are : numbers ≡ it.target.0 ∷ it.displacement ∷ addresses_of kind it
  pub within : IsWithin it

-- moved by a distance, they lie in the space
abbrev pub LiesAt : ℤ → Layout → Type 0
LiesAt by it = LieIn Local (map (moved by) it.runs)

-- a buffer of the caller, moved by a distance
abbrev pub IsMoved : ℤ → Layout → Layout → Type 0
IsMoved by old new = (new ≡ layout_by by old) × LiesAt by old

-- the same of one that may be there
abbrev pub IsMovedIf : ℤ → Option Layout → Option Layout → Type 0
IsMovedIf by None None = Unit {0}
IsMovedIf by None (Some new) = ⊥
IsMovedIf by (Some old) None = ⊥
IsMovedIf by (Some old) (Some new) = IsMoved by old new

-- a call that is made at one place instead of another
pub record IsMovedCall (from to : Place) (call moved : RmaCall) : Type 0 where
  pub window : moved.window ≡ call.window
  pub target : moved.target ≡ Some to.target
  pub kind : moved.kind ≡ call.kind
  pub displacement : moved.displacement ≡ to.displacement
  pub at_target : moved.at_target ≡ call.at_target
  pub origin : IsMovedIf (pos to.origin -ℤ pos from.origin) call.origin moved.origin
  pub result : IsMovedIf (pos to.result -ℤ pos from.result) call.result moved.result
  pub compare : IsMovedIf (pos to.compare -ℤ pos from.compare) call.compare moved.compare

-- a local access that is made at one address instead of another
pub record IsMovedLocal (from to : ℕ) (call moved : LocalCall) : Type 0 where
  pub access : moved.access ≡ call.access
  pub layout : IsMoved (pos to -ℤ pos from) call.layout moved.layout
