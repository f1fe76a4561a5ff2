use Rattle.std.proofs.Common.{◌<◌}
use Rattle.rma_window.specs.declared.window_id.WindowId.{WindowId}
use Rattle.rma_rules.specs.Share.{IsSeparate}
use Rattle.rma_history.proofs.modelled.has_separate.Given as goal

-- no window before is separate
abbrev pub invariant-windows : goal.invariant-windows
invariant-windows l = (id : WindowId) → id.0 < l.number → IsSeparate l.windows id → ⊥
