-- Runs that can be walked, and how far a walk has come.
use Rattle.std.specs.Prelude.{ℕ, ◌≡◌, ◌<◌, ◌^◌, List, length, slice_index, All}
use Rattle.rma_base.specs.declared.point.Point.{Point}
use Rattle.rma_link.specs.declared.meet.Meet.{Meet}
use Rattle.rma_link.specs.declared.links.Links.{Links}
use Rattle.rma_link.specs.Point.{entry, IsReturn}
use Rattle.rma_link.specs.Link.{IsLinked}
use Rattle.rma_link.specs.Order.{IsDirectlyBefore}
use Rattle.rma_link.specs.Within.{AreWithin}

-- links within a run whose positions have 32 bits
pub record IsRun (lens : List ℕ) (links : Links) : Type 0 where
  pub ranks : length lens < 2 ^ 32
  pub calls : All (λ n. n < 2 ^ 31) lens
  pub within : AreWithin lens links

-- the links name so many ranks, and positions and numbers of members of 32 bits
pub record AreReadable (ranks : ℕ) (links : Links) : Type 0 where
  pub edges : All (λ e. e.from.rank.0 < ranks) links.edges
  pub meets : All (λ meet. All (λ m. (m.rank.0 < ranks) × (m.call < 2 ^ 31)) meet.calls) links.meets
  pub sizes : All (λ meet. length meet.calls < 2 ^ 32) links.meets

-- the walk is past a point, by the next position of each rank
abbrev pub IsPassed : List ℕ → Point → Type 0
IsPassed next point = point.pos < slice_index next point.rank.0

-- it is past the entries of all members
abbrev pub IsGathered : List ℕ → Meet → Type 0
IsGathered next meet = All (λ m. IsPassed next (entry m.rank m.call)) meet.calls

-- the next point of a rank
abbrev pub next_point : List ℕ → ℕ → Point
next_point next rank = record { rank = record { 0 = rank }; pos = slice_index next rank }

-- every point directly before the next one of a rank is passed
abbrev pub IsReady : Links → List ℕ → ℕ → Type 0
IsReady links next rank = (p : Point) → IsDirectlyBefore links p (next_point next rank) → IsPassed next p

-- the next point of a rank is a return, and a point of another rank that is not passed leads to it
abbrev pub IsBlocked : List ℕ → Links → List ℕ → ℕ → ℕ → Type 0
IsBlocked lens links next rank other =
    IsReturn lens (next_point next rank) × ((p : Point) × (p.rank.0 ≡ other) × IsLinked links p (next_point next rank) × (IsPassed next p → ⊥))
