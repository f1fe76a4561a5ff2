-- An order of the points of a run, from which its races are asked.
use Rattle.std.proofs.Common.{◌≡◌, ◌<◌, ◌*◌, ℕ, List, length, arith}
use Rattle.std.proofs.lemmas.List.{length-map}
use Rattle.rma_base.specs.declared.point.Point.{Point}
use Rattle.rma_call.specs.Call.{RankCalls}
use Rattle.rma_clock.specs.Reached.{points_of}
use Rattle.rma_clock.proofs.ReachedLemmas.{in_reach, point_reached}
use Rattle.rma_link.specs.Point.{IsPoint}
use Rattle.rma_run.specs.Run.{lens_of}
use Rattle.rma_walk.specs.Outcome.{IsOrder}
use Rattle.rma_order.specs.RunLinks.{links_of}
use Rattle.rma_window.specs.Creation.{creations}
use Rattle.rma_window.specs.Windows.{Window, windows_by}
use Rattle.rma_accesses.specs.Run.{AreGood}
use Rattle.rma_accesses.specs.declared.accesses.RunAccesses.{RunAccesses}
use Rattle.rma_accesses.specs.inside.Kept.{AreAccessesOf}
use Rattle.rma_accesses.proofs.RankLemmas.{contained, place_of}
use Rattle.rma_races.specs.Run.{AreOfRun}

-- a point of the run is one of a rank of the run
of_rank : (ranks : List RankCalls) (p : Point) → IsPoint (lens_of ranks) p → p.rank.0 < length ranks
of_rank ranks p is =
    let lens = lens_of ranks in
    let within = in_reach (points_of lens) p (point_reached lens p is) in
    omega (arith, within, length-map lens (λ (n : ℕ). 2 * n), length-map ranks (λ (own : RankCalls). length own.calls))

-- its points are all there
pub with_points : (ranks : List RankCalls) (given : RunAccesses) (windows : List Window) (points : List Point) → AreGood ranks → AreAccessesOf ranks given → windows ≡ windows_by (creations ranks)
    → IsOrder (lens_of ranks) (links_of ranks) points → AreOfRun ranks given windows points
with_points ranks given windows points good accesses same order = record {
  good = good;
  accesses_are = accesses;
  windows_are = same;
  of_ranks = λ p has. let place = place_of points p has in of_rank ranks p (order.only place.0 p place.1);
  all_points = λ p is. let place = order.listed p is in contained points place.0 p place.1;
}
