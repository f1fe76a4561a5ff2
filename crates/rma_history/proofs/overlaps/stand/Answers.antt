use Rattle.std.proofs.Common.{◌≡◌, ◌<◌, List, Contains, length, get_or, inl, inr, refl, ap, sym, subst, ◌∙◌, ⊎_elim}
use Rattle.std.proofs.lemmas.Option.{get_or_from_slice_get}
use Rattle.std.proofs.lemmas.Result.{on_ok_weaker}
use Rattle.rma_bytes.specs.Runs.{HasByte}
use Rattle.rma_rules.specs.Access.{Access}
use Rattle.rma_history.proofs.KeptLemmas.{same_runs}
use Rattle.rma_history.proofs.overlaps.stand.Goals as goal

pub returns-clause-all : goal.returns-clause-all
returns-clause-all c = on_ok_weaker c.add.result
    (λ stands chain a b at there has.
    let own = c.index-chains-index.result in
    let first = c.in-Some.first.now in
    let mine : own ≡ chain = c.index-chains-index.is ∙ get_or_from_slice_get c.args.chains.now c.args.index chain own at in
    let some : 0 < length own = (rw c.accesses.ensures.value at c.in-Some.ensures.item.3.0) in
    let head : first ≡ get_or own 0 first = (rw c.accesses.ensures.value at c.in-Some.ensures.item.1) in
    let runs : a.runs ≡ c.first-2.inside.bytes = sym (same_runs own first a c.accesses.ensures.chain some head (subst (λ (l : List Access). Contains l a) (sym mine) there)) ∙ ap (λ (x : Access). x.runs) (sym c.first-2.view_is) in
    (stands c.args.index b).1 (inr (refl, c.in_ok-reach.ensures b (subst (λ r. HasByte r b) runs has))))
    c.add.ensures.stands

pub returns-clause-still : goal.returns-clause-still
returns-clause-still c = on_ok_weaker c.add.result (λ stands id b old. (stands id b).1 (inl old)) c.add.ensures.stands

pub returns-clause-only : goal.returns-clause-only
returns-clause-only c = on_ok_weaker c.add.result (λ stands id b new. ⊎_elim (λ old. inl old) (λ added. inr added.0) ((stands id b).0 new)) c.add.ensures.stands
