use Rattle.std.proofs.Common.{length, sym, ap, subst, ◌∙◌, arith}
use Rattle.rma_base.specs.declared.rank.Rank.{Rank}
use Rattle.rma_concurrent.specs.inside.Places.{HasMore}
use Rattle.rma_run.specs.Run.{calls_of}
use Rattle.rma_assert.specs.inside.Started.{IsOfStart}
use Rattle.rma_assert.proofs.GatherLemmas.{up_to_more, up_to_none}
use Rattle.rma_assert.proofs.RunLemmas.{calls_there}
use Rattle.rma_assert.proofs.StartLemmas.{more_of_rank}
use Rattle.rma_assert.proofs.starts.add_of_rank.Goals as goal

pub loop-number-init : goal.loop-number-init
loop-number-init g c = λ links are. up_to_none (IsOfStart links (calls_of c.args.ranks.now) c.args.own.now.rank) c.args.found.now.items

pub add_of_call-requires-clause-own : goal.add_of_call-requires-clause-own
add_of_call-requires-clause-own g c =
    ap (λ (r : Rank). calls_of c.args.ranks.now r.0) c.rank.ensures ∙ calls_there c.args.ranks.now c.args.own.now.rank.0 c.args.own.now c.requires.own ∙ sym c.calls-calls.ensures

pub loop-number-preserved : goal.loop-number-preserved
loop-number-preserved g c = λ links are.
    let Is = IsOfStart links (calls_of c.args.ranks.now) c.args.own.now.rank in
    let old = c.loop-number.found.items in
    let new = c.add_of_call.new.found.items in
    let i = c.loop-number.number in
    let more = subst (λ (r : Rank). HasMore (IsOfStart links (calls_of c.args.ranks.now) r i) old new) c.rank.ensures (c.in_ok-add_of_call.ensures links are) in
    up_to_more Is i c.args.found.now.items old new (c.loop-number.invariant links are) more

pub returns : goal.returns
returns g c = λ links are.
    let past = c.loop-number-test.false in
    let same = ap length c.calls-calls.ensures in
    let long = c.len-number-end.ensures in
    more_of_rank c.args.ranks.now links c.args.own.now c.loop-number.number c.args.found.now.items c.loop-number.found.items c.requires.own (omega arith) (c.loop-number.invariant links are)
