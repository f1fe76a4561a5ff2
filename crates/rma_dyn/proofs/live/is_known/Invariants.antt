use Rattle.std.proofs.Common.{◌≡◌, ◌≤◌, ℕ, Some, slice_get}
use Rattle.rma_dyn.specs.declared.change.Change.{Change}
use Rattle.rma_dyn.specs.Region.{IsAtSame, IsLiveAt}
use Rattle.rma_dyn.proofs.live.is_known.Given as goal

-- none from here on is live
abbrev pub invariant-back : goal.invariant-back
invariant-back l = record {
  to : l.behind ≤ l.initial.behind;
  none : (k : ℕ) (g : Change) → l.behind ≤ k → slice_get l.list k ≡ Some g → IsAtSame g l.detach → ¬ IsLiveAt l.list g l.detach.call;
}

abbrev pub decreases-back : goal.decreases-back
decreases-back l = l.behind
