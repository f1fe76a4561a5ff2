use Rattle.std.proofs.Common.{◌≡◌, ◌<◌, ◌≤◌, Some, slice_get, sym, ap, subst, ◌∙◌, arith, ⊎_elim}
use Rattle.std.proofs.lemmas.Bool.{cases_lt}
use Rattle.std.proofs.lemmas.Option.{same_Some, slice_get_within}
use Rattle.rma_call.specs.declared.what.What.{What}
use Rattle.rma_concurrent.proofs.ListLemmas.{place_of}
use Rattle.rma_assert.specs.Asserted.{assertions_of}
use Rattle.rma_assert.proofs.updates.says_noput.Goals as goal

pub loop-number-preserved : goal.loop-number-preserved
loop-number-preserved c = λ k what less at.
    let number = c.loop-number.number in
    ⊎_elim
    (λ (before : k < number). c.loop-number.invariant k what before at)
    (λ (last : number ≤ k).
    let same : k ≡ number = omega arith in
    let here = same_Some _ what (sym c.what.ensures ∙ subst (λ n. slice_get c.args.calls.now.whats n ≡ Some what) same at) in
    ap (λ (own : What). (assertions_of own).noput) (sym here) ∙ ap (λ a. a.noput) (sym c.assertions_of.ensures) ∙ c.if-assertions_of.false)
    (cases_lt k number)

pub returns : goal.returns
returns c = λ test call has.
    let at = place_of c.args.calls.now.calls call has in
    let one = c.whats-number-end.ensures.each at.0 call at.1 in
    let within = slice_get_within c.args.calls.now.whats one.0 call.what one.1 in
    let past = c.loop-number-test.false in
    let count = c.whats-number-end.ensures.count in
    c.loop-number.invariant one.0 call.what (omega arith) one.1
