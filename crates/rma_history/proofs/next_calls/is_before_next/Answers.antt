use Rattle.std.proofs.Common.{ℕ, refl, subst}
use Rattle.rma_link.specs.Point.{entry}
use Rattle.rma_link.specs.Order.{IsAtOrBefore}
use Rattle.rma_rules.proofs.PartLemmas.{same_some}
use Rattle.rma_history.proofs.next_calls.is_before_next.Goals as goal

pub entry_of-requires : goal.entry_of-requires
entry_of-requires g c = let some = c.requires in (some.4 c.args.rank c.in-Some.call ((c.in-Some.ensures c.in-Some.call).0 refl)).0

pub leq-requires : goal.leq-requires
leq-requires g c =
    let some = c.requires in
    (some.0, some.1, some.2, some.3, rw c.entry_of.ensures (some.4 c.args.rank c.in-Some.call ((c.in-Some.ensures c.in-Some.call).0 refl)).1)

pub returns-in-Some : goal.returns-in-Some
returns-in-Some g c = λ points links are reached entered.
    let call = c.in-Some.call in
    let is_next = (c.in-Some.ensures call).0 refl in
    let told = (rw c.entry_of.ensures at (c.leq.ensures points links are reached)) (entered c.args.rank call is_next).1 in (
      λ test other next. subst (λ (n : ℕ). IsAtOrBefore links c.args.p (entry c.args.rank n)) (same_some call other ((c.in-Some.ensures other).1 next)) (told.0 test),
      λ all. told.1 (all call is_next),
    )

pub returns-in-None : goal.returns-in-None
returns-in-None g c = λ points links are reached entered. (λ test call next. absurd (let found = (c.in-None.ensures call).1 next in cc), λ all. refl)
