use Rattle.std.proofs.Common.{◌≡◌, get_or, sym, ap, subst, ◌∙◌, arith, ⊎_elim}
use Rattle.std.proofs.lemmas.Bool.{cases_lt}
use Rattle.std.proofs.lemmas.List.{get_or_default}
use Rattle.rma_rules.specs.declared.lock.LockKey.{LockKey}
use Rattle.rma_rules.specs.Lock.{AreExclusive}
use Rattle.rma_rules.proofs.lock.any_exclude.Goals as goal

pub loop-key-preserved : goal.loop-key-preserved
loop-key-preserved c = λ k lt d other there exclusive.
    let i = c.loop-key.key-index in
    ⊎_elim (λ earlier. c.loop-key.invariant k earlier d other there exclusive)
    (λ later.
    let same : k ≡ i = omega arith in
    let key = ap (λ n. get_or c.args.keys.now n d) same ∙ get_or_default c.args.keys.now i d _ c.loop-key-test.true in
    let yes = c.excludes_any.ensures.1 (other, there, subst (λ (own : LockKey). AreExclusive own other) key exclusive) in
    let no = c.if-excludes_any.false in
    cc)
    (cases_lt k i)

pub returns : goal.returns
returns c = (
  λ test. absurd (cc),
  λ found.
      let at = found.2 in
      absurd (c.loop-key.invariant at.0 (omega arith) found.0 found.1 found.3 (subst (λ (own : LockKey). AreExclusive own found.1) (sym at.2) found.4)),
)
