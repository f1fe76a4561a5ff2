use Rattle.std.proofs.Common.{◌≡◌, Some, slice_get, ◌<◌, ◌≤◌, is_some, ap, subst, sym, arith, ⊎_elim}
use Rattle.std.proofs.lemmas.Bool.{cases_lt}
use Rattle.std.proofs.lemmas.Option.{get_or_from_slice_get, slice_get_within}
use Rattle.rma_concurrent.proofs.ListLemmas.{place_of}
use Rattle.rma_assert.specs.inside.Stored.{SaysNostore}
use Rattle.rma_assert.proofs.publishing.any_says.Goals as goal

pub loop-number-preserved : goal.loop-number-preserved
loop-number-preserved c = λ k number line less at says.
    let numbers = c.args.numbers.now in
    let i = c.loop-number.number-index in
    ⊎_elim
    (λ (before : k < i). c.loop-number.invariant k number line before at says)
    (λ (last : i ≤ k).
    let same : k ≡ i = omega arith in
    let here = get_or_from_slice_get numbers i number 0 (subst (λ n. slice_get numbers n ≡ Some number) same at) in
    let told = (c.nostore_line.ensures line).1 (subst (λ n. SaysNostore c.args.calls.now.calls n line) (sym here) says) in
    let some = ap is_some told in
    let test = c.if-is_some.false in
    let is = c.is_some.ensures in
    cc)
    (cases_lt k i)

pub returns : goal.returns
returns c = λ test number line has says.
    let at = place_of c.args.numbers.now number has in
    let within = slice_get_within c.args.numbers.now at.0 number at.1 in
    let past = c.loop-number-test.false in
    c.loop-number.invariant at.0 number line (omega arith) at.1 says
