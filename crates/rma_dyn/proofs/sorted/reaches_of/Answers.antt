use Rattle.std.proofs.Common.{◌∙◌, ◌+◌, length, sym, ap, subst}
use Rattle.rma_dyn.specs.inside.Sorted.{Reach}
use Rattle.rma_dyn.proofs.SearchLemmas.{one_more, reach_more}
use Rattle.rma_dyn.proofs.sorted.reaches_of.Goals as goal

pub loop-i-preserved : goal.loop-i-preserved
loop-i-preserved c =
    let list = c.args.list.now in
    let reaches = c.loop-i.reaches.items in
    let next = c.next_reach-reach.result in
    let many = c.loop-i.invariant.as_many in
    let own = rw (← many) at c.next_reach-reach.ensures.own in
    let before = rw (c.as_slice.ensures.value, ← many) at c.next_reach-reach.ensures.before in
    record {
      as_many = ap length c.in_ok-push.ensures.items ∙ one_more reaches next ∙ ap (λ n. n + 1) many;
      each = subst (Reach list) (sym c.in_ok-push.ensures.items) (reach_more list c.requires.rise reaches next c.loop-i.invariant.each own before);
    }
