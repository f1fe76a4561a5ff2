-- Stores to the part of a rank whose call says `nostore` (MPI 4.0, "One-Sided Communications", assertions: the part was not stored to,
-- neither by the rank nor by a call that wrote a buffer there, since the rank's last synchronisation on the window).
use Rattle.std.specs.Prelude.{◌≡◌, ◌<◌, ◌≤◌, ◌*◌, ℕ, true, List, Some, Contains, slice_get}
use Rattle.rma_base.specs.declared.point.Point.{Point}
use Rattle.rma_base.specs.declared.rank.Rank.{Rank}
use Rattle.rma_call.specs.Call.{Call}
use Rattle.rma_window.specs.Windows.{Window}
use Rattle.rma_window.specs.declared.window_id.WindowId.{WindowId}
use Rattle.rma_rules.specs.Access.{Access}
use Rattle.rma_rules.specs.Kind.{is_store}
use Rattle.rma_rules.specs.Share.{MeetsPart}
use Rattle.rma_rules.specs.Spans.{Spans, publishing_of}
use Rattle.rma_assert.specs.declared.assertion.AssertionReason.TheVariants.{Nostore}
use Rattle.rma_assert.specs.declared.assertion.BrokenAssertion.{BrokenAssertion}
use Rattle.rma_assert.specs.Asserted.{assertions_of}

-- a store, or the writing of a buffer, is done when its rank enters its call of this number
pub record IsDoneBy (access : Access) (call : ℕ) : Type 0 where
  pub point : Point
  pub done : access.done ≡ Some point
  pub by : point.pos ≤ 2 * call

-- a rank makes these calls, of which those of these numbers publish its stores to a window. The one of this number says `nostore` and
-- is reported, by a store of the rank to its part, or by a call that writes a buffer there: it is made before that call, and was not
-- done when the rank entered its last earlier call that publishes, nor any before that
pub record IsStoredTo (windows : List Window) (rank : Rank) (calls : List Call) (published : List ℕ) (window : WindowId) (access : Access) (number : ℕ) (found : BrokenAssertion) : Type 0 where
  pub reason : found.reason ≡ Nostore
  pub rank_is : found.rank ≡ rank
  pub asserting : Call
  pub asserting_is : slice_get calls number ≡ Some asserting
  pub says : (assertions_of asserting.what).nostore ≡ true
  pub publishes : Contains published number
  pub own : access.name.rank ≡ rank
  pub stores : is_store access.kind ≡ true
  pub meets : MeetsPart windows access (Some window)
  pub earlier : access.call < number
  pub since : (v : ℕ) → Contains published v → v < number → IsDoneBy access v → ⊥
  pub line : found.line ≡ asserting.line
  pub other : found.other.0 ≡ rank
  pub other_line : found.other.1 ≡ access.name.line

-- some call of the rank is reported by this access
abbrev pub IsByStore : List Window → Rank → List Call → List ℕ → WindowId → Access → BrokenAssertion → Type 0
IsByStore windows rank calls published window access found = (number : ℕ) × IsStoredTo windows rank calls published window access number found

-- and by some access of the run, for some window
abbrev pub IsNostoreBroken : List Window → Spans → (ℕ → List Call) → List Access → BrokenAssertion → Type 0
IsNostoreBroken windows spans calls accesses found =
    (access : Access) × Contains accesses access
    × ((window : WindowId) × IsByStore windows found.rank (calls found.rank.0) (publishing_of spans found.rank window) window access found)
