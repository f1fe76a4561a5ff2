use Rattle.std.proofs.Common.{◌≡◌, ap, rules}
use Rattle.std.proofs.lemmas.Fn.{always_returns_same}
use Rattle.rma_window.specs.declared.window_id.WindowId.{WindowId}
use Rattle.rma_concurrent.specs.inside.Places.{is_below}
use Rattle.rma_concurrent.proofs.ExposureLemmas.{below_first, in_range, is_up_to, up_to_first}
use Rattle.rma_concurrent.proofs.exposures.range_of.Goals as goal

pub returns-clause-all : goal.returns-clause-all
returns-clause-all c = λ k own at same here.
    let list = c.args.list.now in
    let window = c.args.window.0 in
    let target = c.args.target in
    in_range list c.requires window target c.partition_point-start.result c.partition_point-end.result
    (c.partition_point-start.ensures.partitioned (is_below window target) (always_returns_same _ (λ a r. r ≡ is_below window target a.0.now) _ (λ a r f called. search rules)) (below_first list c.requires window target))
    (c.partition_point-end.ensures.partitioned (is_up_to window target) (always_returns_same _ (λ a r. r ≡ is_up_to window target a.0.now) _ (λ a r f called. search rules)) (up_to_first list c.requires window target))
    k own at (ap (λ (w : WindowId). w.0) same) here
