use Rattle.std.proofs.Common.{List, refl, sym, subst, ◌∙◌}
use Rattle.std.proofs.lemmas.Option.{same_Some}
use Rattle.rma_concurrent.specs.inside.Places.{HasMore}
use Rattle.rma_assert.specs.declared.assertion.BrokenAssertion.{BrokenAssertion}
use Rattle.rma_assert.specs.inside.Started.{IsOfPair}
use Rattle.rma_assert.proofs.GatherLemmas.{pushed}
use Rattle.rma_assert.proofs.starts.add_pair.Goals as goal

pub returns-in_ok-push : goal.returns-in_ok-push
returns-in_ok-push g c = λ points links are posted started.
    let found = c.args.found.now.items in
    let is = c.reason_of.ensures points links are posted started in
    subst (HasMore (IsOfPair links c.args.start c.args.post) found) (sym {A = List BrokenAssertion} c.in_ok-push.ensures.items)
    (pushed found _ (record { rank = refl; line = refl; other = refl; other_line = refl; reason = (is c.in-Some.reason).0 c.in-Some.is })
    (λ x pair.
    let reason = same_Some _ _ (sym c.in-Some.is ∙ (is x.reason).1 pair.reason) in
    let rank = sym pair.rank in
    let line = sym pair.line in
    let other = sym pair.other in
    let other_line = sym pair.other_line in
    λ k. record { reason = reason k; rank = rank k; line = line k; other = (other k, other_line k) }))
