-- Updates in an exposure whose call says `noput` (MPI 4.0, "One-Sided Communications", assertions: the part is not updated by puts or
-- accumulates from that call until the exposure ends).
use Rattle.std.specs.Prelude.{◌≡◌, ◌≢◌, ℕ, true, List, Some, Contains, slice_get}
use Rattle.rma_base.specs.declared.point.Point.{Point}
use Rattle.rma_call.specs.Call.{Call}
use Rattle.rma_link.specs.Point.{entry}
use Rattle.rma_rules.specs.Access.{Access}
use Rattle.rma_rules.specs.Kind.{is_update}
use Rattle.rma_assert.specs.declared.assertion.AssertionReason.TheVariants.{Noput}
use Rattle.rma_assert.specs.declared.assertion.BrokenAssertion.{BrokenAssertion}
use Rattle.rma_assert.specs.Asserted.{assertions_of}

-- an access waits for a point to be reached before it starts, besides the entry of its own call: there its exposure opens
pub record WaitsFor (access : Access) (point : Point) : Type 0 where
  pub start : Contains access.starts point
  pub not_own : point ≢ entry access.name.rank access.call

-- the call of this number of a rank says `noput` and is reported, by an update that waits for it to open the exposure
pub record IsUpdatedIn (calls : ℕ → List Call) (access : Access) (number : ℕ) (found : BrokenAssertion) : Type 0 where
  pub reason : found.reason ≡ Noput
  pub updates : is_update access.kind ≡ true
  pub waits : WaitsFor access (entry found.rank number)
  pub opening : Call
  pub opening_is : slice_get (calls found.rank.0) number ≡ Some opening
  pub says : (assertions_of opening.what).noput ≡ true
  pub line : found.line ≡ opening.line
  pub other : found.other.0 ≡ access.name.rank
  pub other_line : found.other.1 ≡ access.name.line

-- some call is reported by this access
abbrev pub IsByUpdate : (ℕ → List Call) → Access → BrokenAssertion → Type 0
IsByUpdate calls access found = (number : ℕ) × IsUpdatedIn calls access number found

-- and by some access of the run
abbrev pub IsNoputBroken : (ℕ → List Call) → List Access → BrokenAssertion → Type 0
IsNoputBroken calls accesses found = (access : Access) × Contains accesses access × IsByUpdate calls access found
