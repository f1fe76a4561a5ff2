-- What is found of pairs, from the order of a possible run.
use Rattle.std.proofs.Common.{◌≡◌, ◌<◌, ◌*◌, ℕ, List, [], ◌∷◌, ◌++◌, length, refl, ap, ◌∙◌, append_assoc, arith}
use Rattle.std.proofs.lemmas.List.{length-map}
use Rattle.rma_base.specs.declared.point.Point.{Point}
use Rattle.rma_call.specs.Call.{RankCalls}
use Rattle.rma_clock.specs.Reached.{points_of}
use Rattle.rma_clock.proofs.ReachedLemmas.{in_reach, point_reached}
use Rattle.rma_link.specs.Order.{IsPossible}
use Rattle.rma_link.specs.Point.{IsPoint}
use Rattle.rma_run.specs.Run.{AreInOrder, lens_of}
use Rattle.rma_walk.specs.Outcome.{IsOrder}
use Rattle.rma_order.specs.RunLinks.{links_of}
use Rattle.rma_order.proofs.ImpossibleLemmas.{some_impossible}
use Rattle.rma_order.proofs.StuckLemmas.{possible_or_told}
use Rattle.rma_order.specs.declared.impossible.ImpossibleCall.{ImpossibleCall}
use Rattle.rma_order.specs.Impossible.{AreImpossibleCalls}
use Rattle.rma_window.specs.Creation.{creations}
use Rattle.rma_window.specs.Windows.{Window, windows_by}
use Rattle.rma_accesses.specs.Run.{AreGood}
use Rattle.rma_accesses.specs.declared.accesses.RunAccesses.{RunAccesses}
use Rattle.rma_accesses.specs.inside.Kept.{AreAccessesOf}
use Rattle.rma_accesses.proofs.RankLemmas.{contained, place_of}
use Rattle.rma_races.specs.Run.{AreOfRun}
use Rattle.rma_report.specs.declared.finding.Finding.{Finding}
use Rattle.rma_stream.specs.Findings.{AreImpossible}

-- a point of the run is one of a rank of the run
of_rank : (ranks : List RankCalls) (p : Point) → IsPoint (lens_of ranks) p → p.rank.0 < length ranks
of_rank ranks p is =
    let lens = lens_of ranks in
    let within = in_reach (points_of lens) p (point_reached lens p is) in
    omega (arith, within, length-map lens (λ (n : ℕ). 2 * n), length-map ranks (λ (own : RankCalls). length own.calls))

-- an order of the points of the run is asked for its races
pub of_run : (ranks : List RankCalls) (given : RunAccesses) (windows : List Window) (points : List Point) → AreGood ranks → AreAccessesOf ranks given → windows ≡ windows_by (creations ranks)
    → IsOrder (lens_of ranks) (links_of ranks) points → AreOfRun ranks given windows points
of_run ranks given windows points good accesses same order = record {
  good = good;
  accesses_are = accesses;
  windows_are = same;
  of_ranks = λ p has. let place = place_of points p has in of_rank ranks p (order.only place.0 p place.1);
  all_points = λ p is. let place = order.listed p is in contained points place.0 p place.1;
}

-- a possible run has no calls that are never left
pub none_impossible : (ranks : List RankCalls) → AreInOrder ranks → IsPossible (links_of ranks) → AreImpossible ranks []
none_impossible ranks in_order possible = by (some_impossible ranks in_order)
  where
    by : (calls : List ImpossibleCall) × AreImpossibleCalls ranks calls → AreImpossible ranks []
    by ([], are) = ([], are, refl)
    by (call ∷ calls, are) = absurd (possible_or_told ranks (call ∷ calls) are (λ none. absurd (let no : ⊥ = cc in no)) possible)

-- three lists behind one another
pub behind : (list one two three races exposed doubled : List Finding) → one ≡ list ++ races → two ≡ one ++ exposed → three ≡ two ++ doubled → three ≡ list ++ (races ++ exposed ++ doubled)
behind list one two three races exposed doubled first second third =
    third ∙ ap (λ l. l ++ doubled) (second ∙ ap (λ l. l ++ exposed) first ∙ append_assoc list races exposed) ∙ append_assoc list (races ++ exposed) doubled
