use Rattle.std.proofs.Common.{◌≡◌, ap, rules}
use Rattle.std.proofs.lemmas.Fn.{always_returns_same}
use Rattle.rma_window.specs.declared.window_id.WindowId.{WindowId}
use Rattle.rma_assert.proofs.LockLemmas.{below_first, in_range, is_below, is_up_to, up_to_first}
use Rattle.rma_assert.proofs.locks.range_of.Goals as goal

pub returns-clause-all : goal.returns-clause-all
returns-clause-all c = λ k own at same.
    let list = c.args.list.now in
    let window = c.args.window.0 in
    in_range list c.requires window c.partition_point-start.result c.partition_point-end.result
    (c.partition_point-start.ensures.partitioned (is_below window) (always_returns_same _ (λ a r. r ≡ is_below window a.0.now) _ (λ a r f called. search rules)) (below_first list c.requires window))
    (c.partition_point-end.ensures.partitioned (is_up_to window) (always_returns_same _ (λ a r. r ≡ is_up_to window a.0.now) _ (λ a r f called. search rules)) (up_to_first list c.requires window))
    k own at (ap (λ (w : WindowId). w.0) same)
