-- What is asked of the clocks for an access.
use Rattle.std.specs.Prelude.{◌≡◌, ◌<◌, ◌≤◌, ◌^◌, ℕ, List, Some}
use Rattle.rma_base.specs.declared.point.Point.{Point}
use Rattle.rma_base.specs.declared.rank.Rank.{Rank}
use Rattle.rma_link.specs.declared.links.Links.{Links}
use Rattle.rma_link.specs.Point.{entry, return_of}
use Rattle.rma_link.specs.Order.{IsAtOrBefore}
use Rattle.rma_clock.specs.Reached.{IsReached}
use Rattle.rma_rules.specs.Access.{Access}

-- an access is done at or before a point
abbrev pub IsDoneAt : Links → Access → Point → Type 0
IsDoneAt links a point = (done : Point) × (a.done ≡ Some done) × IsAtOrBefore links done point

-- the entry of its call, where it is done, and the calls of a rank, so many, are of the run
pub record IsAskable (points : List ℕ) (a : Access) (memory : Rank) (count : ℕ) : Type 0 where
  pub entered : IsReached points (entry a.name.rank a.call)
  pub done : (p : Point) → a.done ≡ Some p → IsReached points p
  pub calls : (call : ℕ) → call < count → IsReached points (entry memory call) × IsReached points (return_of memory call)
  pub small : count ≤ 2 ^ 31
