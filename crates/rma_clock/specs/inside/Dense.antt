-- A row of numbers for each point.
use Rattle.std.specs.Prelude.{ℕ, ◌≡◌, ◌<◌, ◌+◌, ◌%◌, ◌/◌, ◌^◌, List, [], length, slice_index_or, All}
use Rattle.rma_base.specs.declared.point.Point.{Point}
use Rattle.rma_link.specs.declared.links.Links.{Links}
use Rattle.rma_link.specs.Order.{IsAtOrBefore}
use Rattle.rma_walk.specs.declared.source.Source.{Source}
use Rattle.rma_walk.specs.Source.{IsEntryOf, sources_of}
use Rattle.rma_walk.specs.inside.Pending.{IsSource}
use Rattle.rma_clock.specs.declared.dense.DenseClocks.{DenseClocks}
use Rattle.rma_clock.specs.Reached.{IsReached}
use Rattle.rma_clock.specs.inside.Before.{IsBefore, IsBeforeSome, IsRow}
use Rattle.rma_clock.specs.inside.Table.{row_at}

-- the rows of a rank
abbrev pub rows_of : List (List (List ℕ)) → ℕ → List (List ℕ)
rows_of rows rank = slice_index_or rows rank []

-- the row of a point
abbrev pub row_of : List (List (List ℕ)) → Point → List ℕ
row_of rows q = row_at (rows_of rows q.rank.0) q.pos

-- a point has a row
abbrev pub HasRow : List (List (List ℕ)) → Point → Type 0
HasRow rows q = q.pos < length (rows_of rows q.rank.0)

-- a row says what is at or before a point
abbrev pub IsRowOf : ℕ → Links → Point → List ℕ → Type 0
IsRowOf ranks links q row = (length row ≡ ranks) × IsRow (λ p. IsAtOrBefore links p q) row

-- and so does each of these at its point
pub record IsDense (ranks : ℕ) (links : Links) (rows : List (List (List ℕ))) : Type 0 where
  pub size : length rows ≡ ranks
  pub right : (q : Point) → HasRow rows q → IsRowOf ranks links q (row_of rows q)

-- a point has a row, and a position after it
abbrev pub IsHeld : List (List (List ℕ)) → Point → Type 0
IsHeld rows e = HasRow rows e × (e.pos + 1 < 2 ^ 32)

-- a source that can be looked up, and whose entries have rows
abbrev pub IsHeldSource : Links → List (List (List ℕ)) → Source → Type 0
IsHeldSource links rows source = IsSource (length rows) links source × ((e : Point) → IsEntryOf links source e → IsHeld rows e)

-- what a point receives: at an entry nothing
pub record AreReceived (inboxes : List (List (List Source))) (point : Point) (sources : List Source) : Type 0 where
  pub entry : point.pos % 2 ≡ 0 → sources ≡ []
  pub return : point.pos % 2 ≡ 1 → sources ≡ sources_of (slice_index_or inboxes point.rank.0 []) (point.pos / 2)

-- sources of a point, with the one before it on its rank: what is before it is at or before an entry of one of them
pub record AreBefore (ranks : ℕ) (links : Links) (point : Point) (sources : List Source) : Type 0 where
  pub known : All (IsSource ranks links) sources
  pub into : (p : Point) → IsBefore links point p → IsBeforeSome links sources p
  pub from : (p : Point) → IsBeforeSome links sources p → IsBefore links point p

-- the clocks of the first points of each rank, so many
pub record AreDense (points : List ℕ) (links : Links) (clocks : DenseClocks) : Type 0 where
  pub rows : IsDense (length points) links clocks.rows.items
  pub there : (q : Point) → IsReached points q → HasRow clocks.rows.items q
