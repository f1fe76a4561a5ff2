use Rattle.std.proofs.Common.{◌≡◌, ◌<◌, ◌++◌, ◌∷◌, ℕ, List, [], Contains, length, get_or, true≢false, refl, inl, inr, sym, ap, subst, ◌∙◌, ⊎_elim, arith}
use Rattle.std.specs.Prelude.{pos}
use Rattle.std.proofs.lemmas.List.{get_or_default}
use Rattle.std.proofs.lemmas.Option.{slice_get_within}
use Rattle.rma_chain.proofs.ListLemmas.{pushed}
use Rattle.rma_chain.proofs.PlaceLemmas.{read}
use Rattle.rma_history.specs.declared.reach.Hull.{Hull}
use Rattle.rma_history.proofs.HullLemmas.{found_more}
use Rattle.rma_history.proofs.overlaps.meet_hulls.Goals as goal
use Rattle.rma_history.proofs.overlaps.meet_hulls.Goals.{then-meets+in_ok-push, else-meets}

pub hulls-preserved : goal.hulls-preserved
hulls-preserved c =
    let hulls = c.args.hulls.now in
    let n = c.hulls.index in
    let old = c.hulls.met.items in
    let here : Hull = get_or hulls n (record { start = pos 0; end = pos 0 }) in
    let count = c.in-Ok.ensures.1 in
    let within : n < length hulls = (let less = c.hulls-test.true in omega (arith, count, less)) in
    let at = read hulls n here within (get_or_default hulls n (record { start = pos 0; end = pos 0 }) here within) in
    elim c.if-meets.branch [
      | then-meets+in_ok-push w ↦
          let new = c.if-meets.met.items in
          let is : new ≡ old ++ n ∷ [] = ap (λ m. m.items) w.met-is ∙ w.in_ok-push.ensures.items in
          let grown = λ (i : ℕ). subst (λ (l : List ℕ). Contains l i) (sym is) in
          let cut = λ (i : ℕ). subst (λ (l : List ℕ). Contains l i) is in
          let kept = λ (i : ℕ) (there : Contains old i). grown i ((pushed old n i).1 (inl there)) in
          record {
            found = found_more hulls c.args.from n c.args.hull here old new at c.hulls.invariant.found kept (λ b own other. grown n ((pushed old n n).1 (inr refl)));
            still = λ i there. kept i (c.hulls.invariant.still i there);
            bound = λ i there. ⊎_elim (λ before. c.hulls.invariant.bound i before) (λ last. inr (subst (λ k. k < length hulls) (sym last) within)) ((pushed old n i).0 (cut i there));
          }
      | else-meets w ↦
          let new = c.if-meets.met.items in
          let is : new ≡ old = ap (λ m. m.items) w.met-is in
          let grown = λ (i : ℕ). subst (λ (l : List ℕ). Contains l i) (sym is) in
          record {
            found = found_more hulls c.args.from n c.args.hull here old new at c.hulls.invariant.found grown (λ b own other. absurd (true≢false (sym (c.meets.ensures b own other) ∙ w.if-meets.false)));
            still = λ i there. grown i (c.hulls.invariant.still i there);
            bound = λ i there. c.hulls.invariant.bound i (subst (λ (l : List ℕ). Contains l i) is there);
          }
    ]

pub returns-clause-found : goal.returns-clause-found
returns-clause-found c = λ i other b low at within meets.
    let past = c.hulls-test.false in
    let count = c.in-Ok.ensures.1 in
    let inside = slice_get_within c.args.hulls.now i other at in
    c.hulls.invariant.found i other b low (omega (arith, past, count, inside)) at within meets
