-- Rows of numbers at the returns that receive something.
use Rattle.std.specs.Prelude.{ℕ, ◌≡◌, ◌<◌, ◌≤◌, ◌+◌, ◌-◌, ◌^◌, ◌⊎◌, List, [], ◌∷◌, Option, Some, None, length, slice_index_or, All, Contains}
use Rattle.std.specs.List.Sorted.{IsNonDecreasingBy}
use Rattle.rma_base.specs.declared.point.Point.{Point}
use Rattle.rma_link.specs.declared.links.Links.{Links}
use Rattle.rma_link.specs.Order.{IsAtOrBefore, IsPossible}
use Rattle.rma_link.specs.Link.{IsLinked}
use Rattle.rma_walk.specs.declared.source.Source.{Source}
use Rattle.rma_walk.specs.declared.source.Source.TheVariants.{Meet}
use Rattle.rma_walk.specs.Source.{IsEntryOf}
use Rattle.rma_walk.specs.inside.Pending.{IsSource}
use Rattle.rma_clock.specs.declared.step.Step.{Step}
use Rattle.rma_clock.specs.declared.table.Table.{Table}
use Rattle.rma_clock.specs.declared.shared.SharedClocks.{SharedClocks}
use Rattle.rma_clock.specs.declared.builder.Builder.{Builder}
use Rattle.rma_clock.specs.Reached.{IsReached}
use Rattle.rma_clock.specs.inside.Before.{point_at, IsBefore, IsBeforeSource, IsBeforeSome, IsRow}

-- the last of these steps at or before a position, if there is one
abbrev pub IsLastStep : List Step → ℕ → Option Step → Type 0
IsLastStep steps pos None = All (λ s. pos < s.pos) steps
IsLastStep steps pos (Some s) = Contains steps s × (s.pos ≤ pos) × All (λ t. t.pos ≤ pos → t.pos ≤ s.pos) steps

-- the steps of a rank
abbrev pub steps_of : List (List Step) → ℕ → List Step
steps_of steps rank = slice_index_or steps rank []

-- a row by its index
abbrev pub row_at : List (List ℕ) → ℕ → List ℕ
row_at rows index = slice_index_or rows index []

-- each step stands at its position, with a row that covers what is before that return
pub record IsTable (ranks : ℕ) (links : Links) (table : Table) : Type 0 where
  pub size : length table.steps.items ≡ ranks
  pub widths : All (λ row. length row ≡ ranks) table.rows
  pub sorted : (rank : ℕ) → IsNonDecreasingBy (λ s. s.pos) (steps_of table.steps.items rank)
  pub right : (rank : ℕ) (s : Step) → Contains (steps_of table.steps.items rank) s → (s.row < length table.rows) × IsRow (IsBefore links (point_at rank s.pos)) (row_at table.rows s.row)

-- a point that receives something has a step
abbrev pub HasStep : Links → List (List Step) → Point → Type 0
HasStep links steps q = (p : Point) → IsLinked links p q → (s : Step) × Contains (steps_of steps q.rank.0) s × (s.pos ≡ q.pos)

-- and so have all points of its rank up to it
abbrev pub IsCaught : Links → List (List Step) → Point → Type 0
IsCaught links steps q = (pos : ℕ) → pos ≤ q.pos → HasStep links steps (point_at q.rank.0 pos)

-- a source that can be looked up, and whose entries are caught
abbrev pub IsUsable : ℕ → Links → List (List Step) → Source → Type 0
IsUsable ranks links steps source = IsSource ranks links source × ((e : Point) → IsEntryOf links source e → IsCaught links steps e × (e.rank.0 < ranks) × (e.pos + 1 < 2 ^ 32))

-- rows of meets, where they are known
pub record AreShared (links : Links) (rows : List (List ℕ)) (meets : List (Option ℕ)) : Type 0 where
  pub size : length meets ≡ length links.meets
  pub right : (index row : ℕ) → slice_index_or meets index None ≡ Some row → (row < length rows) × IsRow (IsBeforeSource links (Meet index)) (row_at rows row)

-- the point before one of its rank
abbrev pub entry_before : Point → Point
entry_before point = record { rank = point.rank; pos = point.pos - 1 }

-- what is before a return: what is at or before the point before it, or an entry of one of these sources
pub record IsReceived (links : Links) (point : Point) (sources : List Source) : Type 0 where
  pub into : (p : Point) → IsBefore links point p → IsAtOrBefore links p (entry_before point) ⊎ IsBeforeSome links sources p
  pub from : (p : Point) → IsAtOrBefore links p (entry_before point) ⊎ IsBeforeSome links sources p → IsBefore links point p
  pub meet : (index : ℕ) → sources ≡ Meet index ∷ [] → (p : Point) → IsAtOrBefore links p (entry_before point) → IsBeforeSource links (Meet index) p

-- steps of a rank that get one more at a return, where it has a source
pub record IsSettled (point : Point) (sources : List Source) (old new : List (List Step)) : Type 0 where
  pub size : length new ≡ length old
  pub kept : (rank : ℕ) (s : Step) → Contains (steps_of old rank) s → Contains (steps_of new rank) s
  pub added : 0 < length sources → (s : Step) × Contains (steps_of new point.rank.0) s × (s.pos ≡ point.pos)
  pub only : (rank : ℕ) (s : Step) → Contains (steps_of new rank) s → Contains (steps_of old rank) s ⊎ ((rank ≡ point.rank.0) × (s.pos ≡ point.pos))

-- clocks on their way
pub record IsBuilder (ranks : ℕ) (links : Links) (builder : Builder) : Type 0 where
  pub links_are : builder.links.now ≡ links
  pub rows : IsTable ranks links builder.table
  pub shared : AreShared links builder.table.rows builder.meets.items

-- a table of the first points of each rank, so many, of a possible run
pub record IsWhole (points : List ℕ) (links : Links) (table : Table) : Type 0 where
  pub possible : IsPossible links
  pub rows : IsTable (length points) links table
  pub caught : (q : Point) → IsReached points q → IsCaught links table.steps.items q

-- the clocks of those points
abbrev pub AreClocks : List ℕ → Links → SharedClocks → Type 0
AreClocks points links clocks = IsWhole points links clocks.table
