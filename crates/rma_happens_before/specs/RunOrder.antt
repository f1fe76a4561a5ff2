-- The order of a run (MPI 4.0, "MPI Terms and Conventions" and "One-Sided Communications").
use Rattle.std.specs.Prelude.{ℕ, ◌≢◌, List, []}
use Rattle.rma_call.specs.Call.{RankCalls}
use Rattle.rma_link.specs.declared.links.Links.{Links}
use Rattle.rma_link.specs.Order.{IsPossible}
use Rattle.rma_run.specs.Run.{lens_of}
use Rattle.rma_walk.specs.Outcome.{IsOrder}
use Rattle.rma_clock.specs.Reached.{points_of}
use Rattle.rma_clock.specs.declared.shared.SharedClocks.{SharedClocks}
use Rattle.rma_order.specs.RunLinks.{LinkTheSame, links_of}
use Rattle.rma_order.specs.Impossible.{AreImpossibleCalls}
use Rattle.rma_happens_before.specs.declared.order.HappensBefore.{HappensBefore}
use Rattle.rma_happens_before.specs.declared.order.RunOrder.{RunOrder}
use Rattle.rma_happens_before.specs.declared.order.RunOrder.TheVariants.{Possible, Impossible}

-- the order of a possible run: links that link what the links of the run do, all points in an order of the run, and clocks of all
-- points, which `are_of` says of clocks and links
pub record IsHappensBefore (are_of : SharedClocks → List ℕ → Links → Type 0) (ranks : List RankCalls) (order : HappensBefore) : Type 0 where
  pub possible : IsPossible (links_of ranks)
  pub links : LinkTheSame order.links (links_of ranks)
  pub points : IsOrder (lens_of ranks) (links_of ranks) order.points
  pub clocks : are_of order.clocks (points_of (lens_of ranks)) (links_of ranks)

-- a possible run has such an order; any other one has calls that are never left
abbrev pub IsRunOrder : (SharedClocks → List ℕ → Links → Type 0) → List RankCalls → RunOrder → Type 0
IsRunOrder are_of ranks (Possible order) = IsHappensBefore are_of ranks order
IsRunOrder are_of ranks (Impossible calls) = AreImpossibleCalls ranks calls × (calls ≢ [])
