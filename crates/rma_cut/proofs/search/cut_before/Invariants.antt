use Rattle.std.proofs.Common.{◌≡◌, ℕ, ◌*◌, ◌<◌, length, slice_index}
use Rattle.rma_base.specs.declared.point.Point.{Point}
use Rattle.rma_link.specs.declared.links.Links.{Links}
use Rattle.rma_clock.specs.Reached.{IsReached, points_of}
use Rattle.rma_cut.specs.inside.Asked.{HasAsked, IsBeforeAsked, IsCount}
use Rattle.rma_cut.proofs.search.cut_before.Given as goal

abbrev pub invariant-ranks : goal.invariant-ranks
invariant-ranks g l = record {
  size : length l.cut ≡ l.rank;
  counts : (links : Links) → g.C.Clocks.are_of l.clocks (points_of l.lens) links → ((p : Point) → HasAsked l.asked p → IsReached (points_of l.lens) p) → (k : ℕ) → k < l.rank
      → IsCount (IsBeforeAsked links l.asked) k (2 * slice_index l.lens k) (slice_index l.cut k);
}
