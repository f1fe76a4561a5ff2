-- What is kept of the accesses to the memory of one rank (MPI 4.0, "One-Sided Communications"): those that one which is still to come may
-- race with.
use Rattle.std.specs.Prelude.{◌≡◌, ◌≤◌, ◌<◌, ◌^◌, ℕ, List, Option, Some, Contains, slice_get, true}
use Rattle.rma_base.specs.declared.rank.Rank.{Rank}
use Rattle.rma_base.specs.declared.point.Point.{Point}
use Rattle.rma_link.specs.declared.links.Links.{Links}
use Rattle.rma_link.specs.Point.{entry}
use Rattle.rma_clock.specs.Reached.{IsReached}
use Rattle.rma_window.specs.declared.window_id.WindowId.{WindowId}
use Rattle.rma_window.specs.Windows.{Window}
use Rattle.rma_rules.specs.Access.{Access, IsOnWindowOf}
use Rattle.rma_rules.specs.Before.{Before}
use Rattle.rma_rules.specs.Kind.{is_own}
use Rattle.rma_rules.specs.Spans.{Spans, publishing_of}

-- an access as calls make them: it starts where its call is entered, if not later, and only at a target is it made by another rank
pub record IsOfCall (b : Access) : Type 0 where
  pub starts : Contains b.starts (entry b.name.rank b.call)
  pub own : is_own b.kind ≡ true → b.name.rank ≡ b.memory

-- of each rank the number of the first call is given that makes an access which is still to come, if there is one
abbrev pub IsNextOf : List (Option ℕ) → Rank → ℕ → Type 0
IsNextOf next rank call = slice_get next rank.0 ≡ Some (Some call)

-- an access is still to come
abbrev pub IsToCome : List (Option ℕ) → Access → Type 0
IsToCome next b = (call : ℕ) × IsNextOf next b.name.rank call × (call ≤ b.call)

-- an access is before all those of its memory that are still to come
abbrev pub IsPassed : Links → List Window → Spans → List (Option ℕ) → Access → Type 0
IsPassed links windows spans next a = (b : Access) → IsToCome next b → IsOfCall b → IsOnWindowOf windows b → b.memory ≡ a.memory → Before links windows spans a b

-- the first calls that make accesses which are still to come are calls of a run, and known where they are entered
abbrev pub AreEntered : List ℕ → List (Option ℕ) → Type 0
AreEntered points next = (rank : Rank) (call : ℕ) → IsNextOf next rank call → (call < 2 ^ 31) × IsReached points (entry rank call)

-- the calls that publish the stores of a rank are known where they are entered
abbrev pub ArePublishing : List ℕ → Spans → Rank → Type 0
ArePublishing points spans rank = (window : WindowId) (v : ℕ) → Contains (publishing_of spans rank window) v → IsReached points (entry rank v)

-- an access may be asked whether it is before those that are still to come, where these points are known
pub record AreKnown (points : List ℕ) (windows : List Window) (spans : Spans) (next : List (Option ℕ)) (a : Access) : Type 0 where
  pub on_window : IsOnWindowOf windows a
  pub done : (p : Point) → a.done ≡ Some p → IsReached points p
  pub entered : AreEntered points next
  pub publishing : ArePublishing points spans a.memory
