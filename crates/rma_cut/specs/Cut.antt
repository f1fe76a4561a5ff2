-- Cuts of a run: the first points of each rank, so many by rank (MPI 4.0, "MPI Terms and Conventions").
use Rattle.std.specs.Prelude.{◌≡◌, ◌<◌, ◌≤◌, ◌*◌, ℕ, List, length, slice_index}
use Rattle.rma_base.specs.declared.point.Point.{Point}
use Rattle.rma_link.specs.declared.links.Links.{Links}
use Rattle.rma_link.specs.Order.{IsAtOrBefore}
use Rattle.rma_clock.specs.Reached.{IsReached}

-- one number a rank, at most that of the points of the rank, whose calls are so many
pub record IsCut (lens cut : List ℕ) : Type 0 where
  pub one_a_rank : length cut ≡ length lens
  pub within : (rank : ℕ) → rank < length lens → slice_index cut rank ≤ 2 * slice_index lens rank

-- a cut has each point that is at or before one of its points: the run may have been in this state
abbrev pub IsClosed : Links → List ℕ → Type 0
IsClosed links cut = (p q : Point) → IsAtOrBefore links p q → IsReached cut q → IsReached cut p
