use Rattle.std.proofs.Common.{◌≡◌, ◌<◌, ℕ, length, Some, subst, arith, ⊎_elim}
use Rattle.std.proofs.lemmas.Bool.{cases_lt}
use Rattle.std.proofs.lemmas.Option.{slice_get_within}
use Rattle.rma_link.specs.Point.{entry}
use Rattle.rma_link.specs.Order.{IsAtOrBefore}
use Rattle.rma_history.specs.History.{IsNextOf}
use Rattle.rma_history.proofs.next_calls.is_before_all.Goals as goal

pub ranks-preserved : goal.ranks-preserved
ranks-preserved g c = λ points links are reached entered rank call less next.
    ⊎_elim
    (λ earlier. c.ranks.invariant points links are reached entered rank call earlier next)
    (λ last.
    let same : c.ranks.number ≡ rank.0 = omega arith in
    let told = (c.is_before_next.ensures points links are reached entered).0 c.if-not-is_before_next.false call in
    subst (λ (n : ℕ). IsNextOf c.args.next.now (record { 0 = n }) call → IsAtOrBefore links c.args.p (entry (record { 0 = n }) call)) same told next)
    (cases_lt rank.0 c.ranks.number)

pub returns : goal.returns
returns g c = λ points links are reached entered test rank call next.
    let within : rank.0 < length c.args.next.now = slice_get_within c.args.next.now rank.0 (Some call) next in
    c.ranks.invariant points links are reached entered rank call (omega (arith, within, c.in-Ok.ensures, c.ranks-test.false)) next
