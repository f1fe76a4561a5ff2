use Rattle.std.proofs.Common.{◌≡◌, get_or, sym, ap, ◌∙◌, refl, arith, ⊎_elim}
use Rattle.std.proofs.lemmas.Bool.{cases_lt}
use Rattle.std.proofs.lemmas.List.{get_or_default}
use Rattle.rma_chain.specs.Chain.{whenever}
use Rattle.rma_chain.proofs.DeedLemmas.{same_values, values_at}
use Rattle.rma_chain.proofs.deed.are_same_locks.Goals as goal

pub locks-preserved : goal.locks-preserved
locks-preserved c = λ k less d.
    let i = c.locks.i in
    ⊎_elim (λ earlier. c.locks.invariant k earlier d)
    (λ later.
    let last : k ≡ i = omega arith in
    let inside = c.locks-test.true in
    let first = ap whenever (ap (λ n. get_or c.args.keys.now n d) last ∙ get_or_default c.args.keys.now i d _ inside) in
    let second = ap whenever (ap (λ n. get_or c.args.others.now n d) last ∙ get_or_default c.args.others.now i d _ (omega (arith, c.if-keys-others.false))) in
    first ∙ c.is_same_lock.ensures.0 c.if-not-is_same_lock.false ∙ sym second)
    (cases_lt k i)

pub returns : goal.returns
returns c =
    let same = same_values whenever c.args.keys.now c.args.others.now c.if-keys-others.false (λ k less d. c.locks.invariant k (omega (arith, c.locks-test.false)) d) in
    (λ _. same, λ _. refl)

pub returns-then-not-is_same_lock : goal.returns-then-not-is_same_lock
returns-then-not-is_same_lock c = (
  λ yes. absurd cc,
  λ same.
      let yes = c.is_same_lock.ensures.1 (values_at whenever c.args.keys.now c.args.others.now same c.locks.i c.locks-test.true _) in
      let no = c.if-not-is_same_lock.true in
      absurd cc,
)
