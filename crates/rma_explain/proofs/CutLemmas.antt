-- The whole run is a closed cut, links that link the same close the same cuts, and stores are done where they are made.
use Rattle.std.proofs.Common.{ℕ, List}
use Rattle.std.specs.Prelude.{Contains}
use Rattle.rma_call.specs.Call.{RankCalls}
use Rattle.rma_clock.specs.Reached.{points_of}
use Rattle.rma_link.specs.declared.links.Links.{Links}
use Rattle.rma_run.specs.Run.{AreInOrder, lens_of}
use Rattle.rma_window.specs.Windows.{Window}
use Rattle.rma_rules.specs.Access.{Access}
use Rattle.rma_rules.specs.Spans.{Spans}
use Rattle.rma_order.specs.RunLinks.{LinkTheSame, links_of}
use Rattle.rma_order.proofs.LinkLemmas.{links_are_within}
use Rattle.rma_order.proofs.SameLinks.{before_all}
use Rattle.rma_span.specs.Span.{accesses, origin_of}
use Rattle.rma_points.proofs.AccessLemmas.{is_of_run}
use Rattle.rma_cut.specs.Cut.{IsClosed}
use Rattle.rma_cut.specs.Show.{IsStoredThere, ShowRace, Shows}
use Rattle.rma_cut.specs.declared.cuts.Cuts.{Cuts}
use Rattle.rma_cut.proofs.ClosedLemmas.{run_closed}
use Rattle.rma_explain.proofs.MadeLemmas.{is_made, store_done}

-- ---- the whole run

pub run_is_closed : (ranks : List RankCalls) → AreInOrder ranks → IsClosed (links_of ranks) (points_of (lens_of ranks))
run_is_closed ranks in_order = run_closed (lens_of ranks) (links_of ranks) (links_are_within ranks in_order)

-- ---- links that link the same

module _ (links others : Links) (same : LinkTheSame links others) (lens : List ℕ) (windows : List Window) (spans : Spans) where
  shows_same : (a b : Access) (cut : List ℕ) → Shows links lens windows spans a b cut → Shows others lens windows spans a b cut
  shows_same a b cut shows = record {
    is_cut = shows.is_cut;
    closed = λ p q le. shows.closed p q (before_all others links same.all le);
    not_before = shows.not_before;
  }

  pub shown_same : (a b : Access) (cuts : Cuts) → ShowRace links lens windows spans a b cuts → ShowRace others lens windows spans a b cuts
  shown_same a b cuts shown = record { first = shows_same a b cuts.first shown.first; second = shows_same b a cuts.second shown.second }

-- ---- stores

pub stored_there : (ranks : List RankCalls) (a : Access) → Contains (accesses ranks) a → IsStoredThere a
stored_there ranks a has done store is_done =
    let one = is_of_run ranks a has in
    let origin = origin_of ranks one.own in
    let made = is_made origin a one.made in
    store_done origin made.number made.call made.role a done made.is store is_done
