use Rattle.std.proofs.Common.{◌≡◌, get_or, sym, ap, subst, ◌∙◌, arith, ⊎_elim}
use Rattle.std.proofs.lemmas.Bool.{cases_lt}
use Rattle.std.proofs.lemmas.List.{get_or_default}
use Rattle.rma_chain.specs.inside.Locks.{ExcludeRanks}
use Rattle.rma_chain.proofs.deed.any_exclude_ranks.Goals as goal

pub loop-key-preserved : goal.loop-key-preserved
loop-key-preserved c = λ k less d other there apart.
    let i = c.loop-key.key-index in
    ⊎_elim (λ earlier. c.loop-key.invariant k earlier d other there apart)
    (λ later.
    let last : k ≡ i = omega arith in
    let here = ap (λ n. get_or c.args.keys.now n d) last ∙ get_or_default c.args.keys.now i d _ c.loop-key-test.true in
    let yes = c.excludes_a_rank.ensures.1 (other, there, subst (λ key. ExcludeRanks key other) here apart) in
    let no = c.if-excludes_a_rank.false in
    absurd cc)
    (cases_lt k i)

pub returns : goal.returns
returns c = (
  λ yes. absurd cc,
  λ any.
      let place = any.2 in
      absurd (c.loop-key.invariant place.0 (omega (arith, c.loop-key-test.false, place.1)) any.0 any.1 any.3 (subst (λ key. ExcludeRanks key any.1) (sym place.2) any.4)),
)
