-- A walk on its way.
use Rattle.std.specs.Prelude.{ℕ, ◌≡◌, ◌<◌, ◌≤◌, ◌+◌, ◌-◌, ◌*◌, ◌++◌, ◌⊎◌, Bool, true, false, List, [], ◌∷◌, length, slice_index, slice_index_or, sum, count_by, is_some, Contains}
use Rattle.rma_base.specs.declared.point.Point.{Point}
use Rattle.rma_link.specs.declared.links.Links.{Links}
use Rattle.rma_link.specs.Point.{IsReturn}
use Rattle.rma_link.specs.Order.{IsAtOrBefore, IsAfterCycle}
use Rattle.rma_walk.specs.inside.Run.{IsRun, next_point}
use Rattle.rma_walk.specs.inside.Front.{IsFront, IsKept}
use Rattle.rma_walk.specs.inside.Pending.{IsPending}
use Rattle.rma_walk.specs.declared.search.Search.{Search}

-- how far a walk has come, and what returns still wait for
pub record IsWalk (lens : List ℕ) (links : Links) (search : Search) : Type 0 where
  pub run : IsRun lens links
  pub order : List Point
  pub front : IsFront lens links search.front.next.items order
  pub kept : IsKept search.front.order order
  pub pending : IsPending lens links search.front.next.items search.pending
  pub size : length search.free.items ≡ length lens

-- the ranks on the way to a rank that is followed, and that one
abbrev pub line : List ℕ → ℕ → List ℕ
line waiting current = waiting ++ current ∷ []

-- the next point of each rank of a line is at or before those of the ranks before it
abbrev pub IsLine : Links → List ℕ → List ℕ → Type 0
IsLine links next ranks = (j k : ℕ) → j ≤ k → k < length ranks
    → IsAtOrBefore links (next_point next (slice_index ranks k)) (next_point next (slice_index ranks j))

-- a rank that is never left: its next point is a return at or after a cycle
abbrev pub IsStopped : List ℕ → Links → List ℕ → ℕ → Type 0
IsStopped lens links next rank = IsReturn lens (next_point next rank) × IsAfterCycle links (next_point next rank)

-- a rank is done: it is past its last call, or it is not free and nobody is followed for it
abbrev pub IsDone : List ℕ → List ℕ → List Bool → List ℕ → ℕ → Type 0
IsDone lens next free waiting rank =
    (slice_index next rank ≡ 2 * slice_index lens rank) ⊎ ((slice_index_or free rank true ≡ false) × (Contains waiting rank → ⊥))

-- the ranks that wait for one another are those of the line, and not free; other ranks that are not free are stopped
pub record IsStack (lens : List ℕ) (links : Links) (next : List ℕ) (free : List Bool) (waiting : List ℕ) (rank current : ℕ) : Type 0 where
  pub size : length free ≡ length lens
  pub within : current < length lens
  pub root : slice_index (line waiting current) 0 ≡ rank
  pub followed : 0 < length waiting → (slice_index_or free current true ≡ true) × (slice_index next current < 2 * slice_index lens current)
  pub in_line : IsLine links next (line waiting current)
  pub once : (j k : ℕ) → j < k → k < length waiting → slice_index waiting j ≡ slice_index waiting k → ⊥
  pub waits : (j : ℕ) → j < length waiting → (slice_index_or free (slice_index waiting j) true ≡ false) × (slice_index waiting j < length lens) × IsReturn lens (next_point next (slice_index waiting j))
  pub held : (r : ℕ) → slice_index_or free r true ≡ false → Contains waiting r ⊎ IsStopped lens links next r
  pub done : (r : ℕ) → r < rank → IsDone lens next free waiting r

-- a walk that follows a rank for another one
pub record IsSearch (lens : List ℕ) (links : Links) (search : Search) (rank current : ℕ) : Type 0 where
  pub walk : IsWalk lens links search
  pub stack : IsStack lens links search.front.next.items search.free.items search.waiting.items rank current

-- a rank is past its last call, or stopped
abbrev pub IsSettled : List ℕ → Links → List ℕ → ℕ → Type 0
IsSettled lens links next rank = (slice_index next rank ≡ 2 * slice_index lens rank) ⊎ IsStopped lens links next rank

-- a walk that follows no rank, and is done with the ranks before one
pub record IsIdle (lens : List ℕ) (links : Links) (search : Search) (rank : ℕ) : Type 0 where
  pub walk : IsWalk lens links search
  pub nobody : search.waiting.items ≡ []
  pub held : (r : ℕ) → slice_index_or search.free.items r true ≡ false → IsStopped lens links search.front.next.items r
  pub done : (r : ℕ) → r < rank → (slice_index search.front.next.items r ≡ 2 * slice_index lens r) ⊎ (slice_index_or search.free.items r true ≡ false)

-- what is left to do
abbrev pub work : List ℕ → List ℕ → List Bool → ℕ
work lens next free = 2 * (2 * sum lens - sum next) + count_by (λ b. b) free

-- a walk is past more points, of other ranks than this one, that may be followed
pub record IsAhead (lens : List ℕ) (links : Links) (current : ℕ) (old new : Search) : Type 0 where
  pub walk : IsWalk lens links new
  pub free : new.free.items ≡ old.free.items
  pub waiting : new.waiting.items ≡ old.waiting.items
  pub keeps : is_some new.front.order ≡ is_some old.front.order
  pub more : (r : ℕ) → slice_index old.front.next.items r ≤ slice_index new.front.next.items r
  pub still : (r : ℕ) → (r ≡ current) ⊎ (slice_index_or old.free.items r true ≡ false) → slice_index new.front.next.items r ≡ slice_index old.front.next.items r
  pub less : work lens new.front.next.items new.free.items ≤ work lens old.front.next.items old.free.items
