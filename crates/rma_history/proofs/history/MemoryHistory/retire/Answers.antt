use Rattle.std.proofs.Common.{◌≡◌, [], Contains, sym, subst, ◌∙◌, arith, ⊎_elim}
use Rattle.rma_history.specs.inside.Overlaps.{accesses_of}
use Rattle.rma_history.proofs.history.MemoryHistory.retire.Goals as goal

pub is_any_passed-requires : goal.is_any_passed-requires
is_any_passed-requires g c =
    let some = c.requires in
    (some.0, some.1, some.2, λ a there. some.3 a (subst (λ l. Contains l a) c.self.view_is (subst (λ l. Contains (accesses_of l) a) c.chains.ensures there)))

pub keep_others-requires : goal.keep_others-requires
keep_others-requires g c =
    let some = c.requires in
    let same : c.into_chains.result.items ≡ c.self.inside.kept = c.into_chains.ensures ∙ c.replace-before.ensures.value in
    (some.0, some.1, some.2, λ a there. some.3 a (subst (λ l. Contains l a) c.self.view_is (subst (λ l. Contains (accesses_of l) a) same there)))

pub returns-clause-kept : goal.returns-clause-kept
returns-clause-kept g c = λ a there.
    let same : c.into_chains.result.items ≡ c.self.inside.kept = c.into_chains.ensures ∙ c.replace-before.ensures.value in
    let none : c.replace-before.new.dest ≡ [] = c.replace-before.ensures.after ∙ c.new.ensures in
    ⊎_elim
    (λ new. let k = subst (λ l. Contains (accesses_of l) a) none new in let less = k.1 in absurd (omega (arith, less)))
    (λ old. subst (λ l. Contains l a) c.self.view_is (subst (λ l. Contains (accesses_of l) a) same old))
    (c.in_ok-self-inside.ensures.kept a there)

pub returns-clause-gone : goal.returns-clause-gone
returns-clause-gone g c = λ points links are known a there.
    let same : c.into_chains.result.items ≡ c.self.inside.kept = c.into_chains.ensures ∙ c.replace-before.ensures.value in
    c.in_ok-self-inside.ensures.gone points links are
    (λ b has. known b (subst (λ l. Contains l b) c.self.view_is (subst (λ l. Contains (accesses_of l) b) same has)))
    a
    (subst (λ l. Contains (accesses_of l) a) (sym same) (subst (λ l. Contains l a) (sym c.self.view_is) there))
