use Rattle.std.proofs.Common.{refl, sym, subst, ⊎_elim, ◌∙◌}
use Rattle.std.proofs.lemmas.List.Elements.{All-contains}
use Rattle.rma_base.specs.declared.point.Point.{Point}
use Rattle.rma_link.specs.Order.{IsAtOrBefore}
use Rattle.rma_clock.specs.Reached.{IsReached}
use Rattle.rma_rules.specs.Before.{IsBeforeStart}
use Rattle.rma_rules.proofs.BeforeLemmas.{has_entry, has_opening, start_cases}
use Rattle.rma_rules.proofs.PartLemmas.{same_some}
use Rattle.rma_rules.proofs.order.is_before_start.Goals as goal

pub returns-then-leq : goal.returns-then-leq
unfolding IsBeforeStart
returns-then-leq g c = λ points links are reached starts.
    let own = c.b.inside in
    let all = rw (← c.b.view_is) at starts in
    let told = rw c.entry_of.ensures at (c.leq.ensures points links are reached) in
    let entered = has_entry own.name.rank own.call own.opening in
    let order = (told (All-contains (IsReached points) _ _ all entered)).0 c.if-leq.true in
    (λ test. rw (← c.b.view_is) (_, entered, order), λ is. refl)

pub returns-in-Some : goal.returns-in-Some
unfolding IsBeforeStart
returns-in-Some g c = λ points links are reached starts.
    let own = c.b.inside in
    let all = rw (← c.b.view_is) at starts in
    let told = rw c.entry_of.ensures at (c.leq.ensures points links are reached) in
    let entered = told (All-contains (IsReached points) _ _ all (has_entry own.name.rank own.call own.opening)) in
    let there = has_opening own.name.rank own.call own.opening c.in-Some.opening c.in-Some.is in
    let opened = c.leq-in-Some.ensures points links are reached (All-contains (IsReached points) _ _ all there) in (
      λ test. rw (← c.b.view_is) (_, there, opened.0 test),
      λ is.
          let found = rw (← c.b.view_is) at is in
          ⊎_elim
          (λ first. absurd (let yes = entered.1 (subst (λ (q : Point). IsAtOrBefore links c.args.p q) first found.2) in let no = c.if-leq.false in cc))
          (λ second. opened.1 (subst (λ (q : Point). IsAtOrBefore links c.args.p q) (same_some _ _ (sym second ∙ c.in-Some.is)) found.2))
          (start_cases own.name.rank own.call own.opening found.0 found.1),
    )

pub returns-in-None : goal.returns-in-None
unfolding IsBeforeStart
returns-in-None g c = λ points links are reached starts.
    let own = c.b.inside in
    let all = rw (← c.b.view_is) at starts in
    let told = rw c.entry_of.ensures at (c.leq.ensures points links are reached) in
    let entered = told (All-contains (IsReached points) _ _ all (has_entry own.name.rank own.call own.opening)) in (
      λ test. absurd (cc),
      λ is.
          let found = rw (← c.b.view_is) at is in
          ⊎_elim
          (λ first. absurd (let yes = entered.1 (subst (λ (q : Point). IsAtOrBefore links c.args.p q) first found.2) in let no = c.if-leq.false in cc))
          (λ second. absurd (cc (sym second ∙ c.in-None.is)))
          (start_cases own.name.rank own.call own.opening found.0 found.1),
    )
