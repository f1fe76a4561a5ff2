use Rattle.std.proofs.Common.{ℕ, ◌<◌, List}
use Rattle.rma_link.specs.declared.links.Links.{Links}
use Rattle.rma_clock.specs.Reached.{IsReached}
use Rattle.rma_window.specs.declared.window_id.WindowId.{WindowId}
use Rattle.rma_rules.specs.Share.{IsSeparate}
use Rattle.rma_history.specs.History.{AreEntered, ArePublishing}
use Rattle.rma_history.specs.inside.Passed.{AreBehind, IsPublishedToAll}
use Rattle.rma_history.proofs.passed.is_published_everywhere.Given as goal

abbrev pub invariant-windows : goal.invariant-windows
invariant-windows g l = record {
  published : (points : List ℕ) (links : Links) → g.C.Clocks.are_of l.clocks points links → IsReached points l.done → AreEntered points l.next → ArePublishing points l.lists l.rank → AreBehind links l.next l.initial.horizon →
      (window : WindowId) → window.0 < l.number → IsSeparate l.windows window → IsPublishedToAll links l.lists l.next l.rank window l.done;
  behind : (points : List ℕ) (links : Links) → g.C.Clocks.are_of l.clocks points links → IsReached points l.done → AreEntered points l.next → ArePublishing points l.lists l.rank →
      AreBehind links l.next l.initial.horizon → AreBehind links l.next l.horizon;
}
