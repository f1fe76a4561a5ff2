use Rattle.std.proofs.Common.{◌≡◌, Some, slice_get, subst, arith}
use borrow.Author.Count.{below_more}
use Rattle.std.proofs.lemmas.Option.{slice_get_within}
use Rattle.rma_call.specs.Call.{what_of}
use Rattle.rma_call.specs.declared.what.What.{What}
use Rattle.rma_exposure.specs.inside.Epochs.{IsNeither}
use Rattle.rma_exposure.proofs.RunLemmas.{other_is_neither}
use Rattle.rma_exposure.proofs.whole.may_open_or_close.Goals as goal

pub returns-then-not-has : goal.returns-then-not-has
returns-then-not-has c = λ is i call at. other_is_neither call.what (c.has.ensures c.if-not-has.true i call at)

pub loop-number-preserved : goal.loop-number-preserved
loop-number-preserved c =
    let whats = c.args.calls.now.whats in
    let own = c.what.ensures in
    below_more (λ number. (what : What) → slice_get whats number ≡ Some what → IsNeither what) c.loop-number.number c.loop-number.invariant
    (λ what at. let same : what_of c.what.result ≡ what = cc in subst IsNeither same (c.opens_or_closes.ensures c.if-opens_or_closes.false))

pub returns : goal.returns
returns c = λ is i call at.
    let (number, there) = c.whats-number-end.ensures.each i call at in
    let within = slice_get_within c.args.calls.now.whats number call.what there in
    c.loop-number.invariant number (omega arith) call.what there
