-- What was taken of the accesses of a run.
use Rattle.std.specs.Prelude.{◌≡◌, ◌↔◌, ◌<◌, ◌⊎◌, ℕ, ◌+◌, List, Some, Contains, length, slice_get, slice_index}
use Rattle.rma_call.specs.Call.{RankCalls}
use Rattle.rma_link.specs.declared.links.Links.{Links}
use Rattle.rma_run.specs.Run.{IsRun}
use Rattle.rma_window.specs.Creation.{creations}
use Rattle.rma_window.specs.Windows.{Window, windows_by}
use Rattle.rma_rules.specs.Access.{Access}
use Rattle.rma_rules.specs.Spans.{Spans}
use Rattle.rma_span.specs.Span.{accesses, accesses_at, origin_of, spanned_calls}
use Rattle.rma_points.specs.Points.{AreRunCalls}
use Rattle.rma_finding.specs.declared.finding.FoundRace.{FoundRace}
use Rattle.rma_pairs.specs.Races.{IsFound}
use Rattle.rma_history.specs.History.{IsPassed}
use Rattle.rma_races.specs.declared.taking.Taking.{Taking}

-- the windows of a run, and the calls that are listed for its ranks
pub record IsKnown (ranks : List RankCalls) (windows : List Window) (spans : Spans) : Type 0 where
  pub run : IsRun ranks
  pub calls : AreRunCalls ranks spans
  pub windows_are : windows ≡ windows_by (creations ranks)

-- the numbers of the calls of a rank that access memory
abbrev pub numbers : List RankCalls → RankCalls → List ℕ
numbers ranks own = spanned_calls (origin_of ranks own)

-- of each rank the number of the next call is known that accesses memory, if there is one
pub record IsBegun (ranks : List RankCalls) (taking : Taking) : Type 0 where
  pub memories : length taking.memories.items ≡ length ranks
  pub taken : length taking.taken.items ≡ length ranks
  pub next : length taking.next.items ≡ length ranks
  pub at : (i : ℕ) (own : RankCalls) → slice_get ranks i ≡ Some own → slice_get taking.next.items i ≡ Some (slice_get (numbers ranks own) (slice_index taking.taken.items i))

-- an access is kept in the history of its memory
abbrev pub IsKept : List (List Access) → Access → Type 0
IsKept histories a = (history : List Access) × (slice_get histories a.memory.0 ≡ Some history) × Contains history a

-- these accesses were taken: each is kept or before all that are still to come, and the races among them are found
pub record AreTaken (links : Links) (windows : List Window) (spans : Spans) (ranks : List RankCalls) (seen : List Access) (taking : Taking) : Type 0 where
  pub begun : IsBegun ranks taking
  pub of_run : (a : Access) → Contains seen a → Contains (accesses ranks) a
  pub kept : (memory : ℕ) (history : List Access) (a : Access) → slice_get taking.memories.items memory ≡ Some history → Contains history a → Contains seen a
  pub gone : (a : Access) → Contains seen a → IsKept taking.memories.items a ⊎ IsPassed links windows spans taking.next.items a
  pub found : (race : FoundRace) → Contains taking.found.items race ↔ IsFound links windows spans seen race

-- the accesses of the first calls of each rank, as many as were taken
abbrev pub HasTaken : List RankCalls → List Access → List ℕ → Type 0
HasTaken ranks seen taken =
    (i : ℕ) (own : RankCalls) (k number : ℕ) (a : Access) → slice_get ranks i ≡ Some own → k < slice_index taken i → slice_get (numbers ranks own) k ≡ Some number
    → Contains (accesses_at (origin_of ranks own) number) a → Contains seen a

-- the accesses of some calls of each rank were taken
abbrev pub IsTaking : Links → List Window → Spans → List RankCalls → Taking → Type 0
IsTaking links windows spans ranks taking = (seen : List Access) × AreTaken links windows spans ranks seen taking × HasTaken ranks seen taking.taken.items

-- all calls of a rank were taken, up to that of this number
abbrev pub IsThrough : List RankCalls → List ℕ → ℕ → ℕ → Type 0
IsThrough ranks taken rank call =
    (own : RankCalls) (k number : ℕ) → slice_get ranks rank ≡ Some own → slice_get (numbers ranks own) k ≡ Some number → (number < call + 1) → k < slice_index taken rank

-- as many calls of each rank, or more
abbrev pub IsFurther : List ℕ → List ℕ → Type 0
IsFurther before after = (i : ℕ) → slice_index before i < slice_index after i + 1
