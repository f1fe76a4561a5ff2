-- The order of a run, from that of links which link the same.
use Rattle.std.proofs.Common.{◌≢◌, ℕ, ◌⊎◌, inl, inr, List, [], refl}
use Rattle.rma_base.specs.declared.point.Point.{Point}
use Rattle.rma_link.specs.declared.links.Links.{Links}
use Rattle.rma_clock.specs.declared.shared.SharedClocks.{SharedClocks}
use Rattle.rma_clock.specs.inside.Before.{IsBefore, point_at}
use Rattle.rma_clock.specs.inside.Table.{AreClocks}
use Rattle.rma_clock.proofs.RowLemmas.{row_as}
use Rattle.rma_call.specs.Call.{RankCalls}
use Rattle.rma_link.specs.Order.{IsPossible}
use Rattle.rma_run.specs.Run.{AreInOrder, lens_of}
use Rattle.rma_walk.specs.Outcome.{IsOrder, IsOutcome}
use Rattle.rma_walk.specs.declared.walked.Walked.{Walked}
use Rattle.rma_walk.specs.declared.walked.Walked.TheVariants.{Order, Stuck}
use Rattle.rma_walk.proofs.ExistenceLemmas.{outcome_exists}
use Rattle.rma_order.specs.declared.impossible.ImpossibleCall.{ImpossibleCall}
use Rattle.rma_order.specs.Impossible.{AreImpossibleCalls, told_all}
use Rattle.rma_order.specs.RunLinks.{LinkTheSame, links_of}
use Rattle.rma_order.proofs.LinkLemmas.{links_are_within}
use Rattle.rma_order.proofs.StuckLemmas.{stuck_is_told}
use Rattle.rma_order.proofs.SameLinks.{before_all, directly_before_all, link_back, possible_same}

is_before_all : (links others : Links) → LinkTheSame links others → (q p : Point) → IsBefore links q p → IsBefore others q p
is_before_all links others same q p (d, step, first) = (d, directly_before_all links others same.only d q step, before_all links others same.only first)

-- clocks of links are those of others that link the same
pub clocks_same : (links others : Links) → LinkTheSame links others → (points : List ℕ) (clocks : SharedClocks) → AreClocks points links clocks → AreClocks points others clocks
clocks_same links others same points clocks are = record {
  possible = possible_same links others same are.possible;
  rows = record {
    size = are.rows.size;
    widths = are.rows.widths;
    sorted = are.rows.sorted;
    right = λ rank s has.
        let q = point_at rank s.pos in
        let one = are.rows.right rank s has in
        (one.0, row_as (IsBefore links q) (IsBefore others q) _ one.1 (λ p before. is_before_all others links (link_back links others same) q p before) (λ p before. is_before_all links others same q p before));
  };
  caught = λ q reached pos upto p linked. are.caught q reached pos upto p (same.all p _ linked);
}

-- a run has an order of its points, or impossible calls
pub order_exists : (ranks : List RankCalls) → AreInOrder ranks → (IsPossible (links_of ranks) × ((points : List Point) × IsOrder (lens_of ranks) (links_of ranks) points)) ⊎ ((calls : List ImpossibleCall) × AreImpossibleCalls ranks calls × (calls ≢ []))
order_exists ranks in_order =
    let found = outcome_exists (lens_of ranks) (links_of ranks) (links_are_within ranks in_order) in
    by found.0 found.1
  where
    same : LinkTheSame (links_of ranks) (links_of ranks)
    same = record { only = λ from to linked. linked; all = λ from to linked. linked }

    by : (walked : Walked) → IsOutcome (lens_of ranks) (links_of ranks) walked → (IsPossible (links_of ranks) × ((points : List Point) × IsOrder (lens_of ranks) (links_of ranks) points)) ⊎ ((calls : List ImpossibleCall) × AreImpossibleCalls ranks calls × (calls ≢ []))
    by (Order points) is = inl (is.0, (points, is.1))
    by (Stuck firsts) is = inr (told_all ranks firsts, (firsts, is.1, refl), stuck_is_told ranks in_order (links_of ranks) same firsts is)
