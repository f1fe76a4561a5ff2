use Rattle.std.proofs.Common.{map, subst}
use Rattle.std.specs.Prelude.{Contains}
use Rattle.rma_accesses.specs.inside.Kept.{IsAccessesOf, rank_of}
use Rattle.rma_accesses.proofs.RankLemmas.{all_at, contained, item_is, mapped}
use Rattle.rma_probe.proofs.table.all_accesses.Goals as goal

pub loop-own-preserved : goal.loop-own-preserved
loop-own-preserved c = λ ranks are.
    let items = c.args.run.now.ranks.items in
    let own = c.own-item.result in
    let there = item_is items c.as_slice-own-items.result.now c.loop-own.own-index own c.as_slice-own-items.ensures.value c.loop-own-test.true c.own-item.is in
    c.in_ok-add_rank.ensures ranks (all_at (IsAccessesOf ranks) items c.loop-own.own-index own are.each there)
    (subst (λ rs. Contains rs (rank_of own)) are.owns (contained (map rank_of items) c.loop-own.own-index (rank_of own) (mapped rank_of items c.loop-own.own-index own there)))
    (c.loop-own.invariant ranks are)
