use Rattle.std.proofs.Common.{ℕ, ◌<◌, List}
use Rattle.rma_base.specs.declared.rank.Rank.{Rank}
use Rattle.rma_link.specs.declared.links.Links.{Links}
use Rattle.rma_link.specs.Point.{entry}
use Rattle.rma_link.specs.Order.{IsAtOrBefore}
use Rattle.rma_clock.specs.Reached.{IsReached}
use Rattle.rma_history.specs.History.{AreEntered, IsNextOf}
use Rattle.rma_history.proofs.next_calls.is_before_all.Given as goal

abbrev pub invariant-ranks : goal.invariant-ranks
invariant-ranks g l =
    (points : List ℕ) (links : Links) → g.C.Clocks.are_of l.clocks points links → IsReached points l.p → AreEntered points l.next →
    (rank : Rank) (call : ℕ) → rank.0 < l.number → IsNextOf l.next rank call → IsAtOrBefore links l.p (entry rank call)
