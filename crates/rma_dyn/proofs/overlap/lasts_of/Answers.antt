use Rattle.std.proofs.Common.{◌∙◌, ◌+◌, length, sym, ap, subst}
use Rattle.rma_dyn.specs.inside.Overlap.{Last}
use Rattle.rma_dyn.proofs.SearchLemmas.{one_more}
use Rattle.rma_dyn.proofs.OverlapLemmas.{last_more}
use Rattle.rma_dyn.proofs.overlap.lasts_of.Goals as goal

pub loop-i-preserved : goal.loop-i-preserved
loop-i-preserved c =
    let list = c.args.list.now in
    let lasts = c.loop-i.lasts.items in
    let next = c.next_last-last.result in
    let many = c.loop-i.invariant.as_many in
    let own = rw (← many) at c.next_last-last.ensures.own in
    let before = rw (c.as_slice.ensures.value, ← many) at c.next_last-last.ensures.before in
    record {
      as_many = ap length c.in_ok-push.ensures.items ∙ one_more lasts next ∙ ap (λ n. n + 1) many;
      each = subst (Last list) (sym c.in_ok-push.ensures.items) (last_more list c.requires.rise lasts next c.loop-i.invariant.each own before);
    }
