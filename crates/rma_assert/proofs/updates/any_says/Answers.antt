use Rattle.std.proofs.Common.{◌≡◌, ◌<◌, ◌≤◌, List, Some, Contains, slice_get, sym, subst, ◌∙◌, arith, ⊎_elim}
use Rattle.std.proofs.lemmas.Bool.{cases_lt}
use Rattle.std.proofs.lemmas.Option.{same_Some, slice_get_within}
use Rattle.rma_call.specs.Call.{Call, RankCalls}
use Rattle.rma_concurrent.proofs.ListLemmas.{contained}
use Rattle.rma_assert.proofs.GatherLemmas.{item_is}
use Rattle.rma_assert.proofs.RunLemmas.{caller_there, calls_there}
use Rattle.rma_assert.proofs.updates.any_says.Goals as goal

pub loop-own-preserved : goal.loop-own-preserved
loop-own-preserved c = λ k own call less at has.
    let ranks = c.args.ranks.now in
    let i = c.loop-own.own-index in
    let item = c.own-item.result in
    ⊎_elim
    (λ (before : k < i). c.loop-own.invariant k own call before at has)
    (λ (last : i ≤ k).
    let same : k ≡ i = omega arith in
    let there = item_is ranks i item c.loop-own-test.true c.own-item.is in
    let one : own ≡ item = same_Some own item (sym (subst (λ n. slice_get ranks n ≡ Some own) same at) ∙ there) in
    c.says_noput.ensures c.if-says_noput.false call (subst (λ (l : List Call). Contains l call) (sym c.calls.ensures) (subst (λ (r : RankCalls). Contains r.calls call) one has)))
    (cases_lt k i)

pub returns : goal.returns
returns c = λ test rank number line says.
    let ranks = c.args.ranks.now in
    let caller = caller_there ranks rank.0 number says.call says.there in
    let there = subst (λ (l : List Call). slice_get l number ≡ Some says.call) (calls_there ranks rank.0 caller.0 caller.1) says.there in
    let within = slice_get_within ranks rank.0 caller.0 caller.1 in
    let past = c.loop-own-test.false in
    let never = c.loop-own.invariant rank.0 caller.0 says.call (omega arith) caller.1 (contained caller.0.calls number says.call there) in
    let yes = says.says in
    cc
