use Rattle.std.proofs.Common.{◌≡◌, [], ◌∷◌, ◌++◌, Contains, Some, slice_get, inl, inr, sym, subst, arith, ⊎_elim}
use Rattle.std.proofs.lemmas.Option.{slice_get_within}
use Rattle.rma_rules.specs.Access.{Access}
use Rattle.rma_history.specs.inside.Overlaps.{accesses_of}
use Rattle.rma_history.proofs.KeptLemmas.{begun, in_chain, left_or_first, left_there}
use Rattle.rma_history.proofs.retire.keep_others.Goals as goal

pub count_passed-passed-requires-clause-chain : goal.count_passed-passed-requires-clause-chain
count_passed-passed-requires-clause-chain g c = rw c.accesses.ensures.value c.accesses.ensures.chain

pub count_passed-passed-requires-clause-clocks : goal.count_passed-passed-requires-clause-clocks
count_passed-passed-requires-clause-clocks g c =
    let chain = c.in-Some.chain in
    let popped : c.chains.chains.items ≡ c.pop.new.self.items ++ chain ∷ [] = (rw c.in-Some.is at c.pop.ensures.items) in
    let some = c.requires in
    (some.0, some.1, some.2, λ a there. some.3 a (c.chains.invariant.left a (subst (λ l. Contains (accesses_of l) a) (sym popped) ((begun c.pop.new.self.items chain a).1 (inr (subst (λ l. Contains l a) c.accesses.ensures.value there))))))

pub chains-preserved : goal.chains-preserved
chains-preserved g c =
    let chain = c.in-Some.chain in
    let rest = c.pop.new.self.items in
    let popped : c.chains.chains.items ≡ rest ++ chain ∷ [] = (rw c.in-Some.is at c.pop.ensures.items) in
    let was : (a : Access) → Contains c.accesses.result.now a → Contains (accesses_of c.args.chains.items) a =
    λ a has. c.chains.invariant.left a (subst (λ l. Contains (accesses_of l) a) (sym popped) ((begun rest chain a).1 (inr (subst (λ l. Contains l a) c.accesses.ensures.value has)))) in
    record {
      left = λ a there. c.chains.invariant.left a (subst (λ l. Contains (accesses_of l) a) (sym popped) ((begun rest chain a).1 (inl there)));
      kept = λ a there. ⊎_elim
          (λ earlier. c.chains.invariant.kept a earlier)
          (λ own. inr (c.chains.invariant.left a (subst (λ l. Contains (accesses_of l) a) (sym popped) ((begun rest chain a).1 (inr (left_there chain c.count_passed-passed.result a (subst (λ l. Contains l a) c.let_go.ensures own)))))))
          ((c.in_ok-keep.ensures a).0 there);
      still = λ a there. (c.in_ok-keep.ensures a).1 (inl (c.chains.invariant.still a there));
      gone = λ points links are known a there. ⊎_elim
          (λ before. ⊎_elim
          (λ other. inl other)
          (λ own. ⊎_elim
          (λ first. inr (inr (c.count_passed-passed.ensures.passed points links are (λ b has. known b (was b has)) (c.chains.invariant.behind points links are known)
          first.0 a (subst (λ l. slice_get l first.0 ≡ Some a) (sym c.accesses.ensures.value) first.2) first.1)))
          (λ left. inr (inl ((c.in_ok-keep.ensures a).1 (inr (subst (λ l. Contains l a) (sym c.let_go.ensures) left)))))
          (left_or_first chain c.count_passed-passed.result a own))
          ((begun rest chain a).0 (subst (λ l. Contains (accesses_of l) a) popped before)))
          (λ after. ⊎_elim (λ kept. inr (inl ((c.in_ok-keep.ensures a).1 (inl kept)))) (λ passed. inr (inr passed)) after)
          (c.chains.invariant.gone points links are known a there);
      behind = λ points links are known. c.count_passed-passed.ensures.behind points links are (λ a has. known a (was a has)) (c.chains.invariant.behind points links are known);
    }

pub returns-clause-gone : goal.returns-clause-gone
returns-clause-gone g c = λ points links are known a there. ⊎_elim
    (λ left.
    let one = in_chain c.chains.chains.items a left in
    let less = slice_get_within c.chains.chains.items one.0 one.1 one.2 in
    let none = c.in_default.ensures.cases in
    let size = c.chains.chains.ok.0 in
    absurd (omega (arith, less, none, size)))
    (λ found. found)
    (c.chains.invariant.gone points links are known a there)
