use Rattle.std.proofs.Common.{ℕ, ◌-◌, ◌<◌, ◌≤◌, List, length, get_or, Contains, sym, subst, arith, ⊎_elim}
use Rattle.std.proofs.lemmas.Bool.{cases_lt}
use Rattle.std.proofs.lemmas.List.Elements.{Contains-get_or}
use Rattle.rma_link.specs.Point.{return_of}
use Rattle.rma_link.specs.Order.{IsAtOrBefore}
use Rattle.rma_rules.specs.Before.{IsMadeVisible}
use Rattle.rma_rules.proofs.BeforeLemmas.{call_at, returned_later}
use Rattle.rma_history.proofs.PassedLemmas.{returned_before}
use Rattle.rma_history.proofs.passed.is_made_visible.Goals as goal

pub returns-then-n-eq0 : goal.returns-then-n-eq0
unfolding IsMadeVisible
returns-then-n-eq0 g c = λ points links are reached entered.
    let calls = c.visible-calls.result.now in (
      λ test. absurd (cc),
      λ is.
          let at = call_at calls is.0 (subst (λ (l : List ℕ). Contains l is.0) (sym c.visible-calls.ensures.calls) is.1) in
          let k_in : at.0 < length calls = at.1 in
          let late = subst (λ (w : ℕ). c.args.call ≤ w) at.2 (c.count_before-n.ensures.after at.0 (omega arith) k_in) in
          let early : is.0 < c.args.call = is.2 in
          absurd (omega arith),
    )

pub leq-requires : goal.leq-requires
leq-requires g c =
    let some = c.requires in
    let calls = c.visible-calls.result.now in
    let last = c.count_before-n.result - 1 in
    let v = get_or calls last 0 in
    (some.0, some.1, some.2, some.3, rw c.return_from.ensures (returned_before some.0 c.args.rank v c.args.call (c.count_before-n.ensures.before last (omega arith)) some.4))

pub returns : goal.returns
unfolding IsMadeVisible
returns g c = λ points links are reached entered.
    let calls = c.visible-calls.result.now in
    let n = c.count_before-n.result in
    let last = n - 1 in
    let within : last < length calls = omega (arith, c.count_before-n.ensures.bound) in
    let v = get_or calls last 0 in
    let there = subst (λ (l : List ℕ). Contains l v) c.visible-calls.ensures.calls (Contains-get_or calls last 0 within) in
    let less = c.count_before-n.ensures.before last (omega arith) in
    let told = (rw c.return_from.ensures at (c.leq.ensures points links are reached)) (returned_before points c.args.rank v c.args.call less entered) in (
      λ test. (v, there, less, told.0 test),
      λ is.
          let at = call_at calls is.0 (subst (λ (l : List ℕ). Contains l is.0) (sym c.visible-calls.ensures.calls) is.1) in
          let k = at.0 in
          let k_in : k < length calls = at.1 in
          let order = subst (λ (w : ℕ). IsAtOrBefore links c.args.done (return_of c.args.rank w)) (sym at.2) is.3 in
          ⊎_elim (λ earlier. told.1 (returned_later links c.args.rank calls c.visible-calls.ensures.ascend.ascend c.args.done k last (omega arith) within order))
          (λ later.
          let late = subst (λ (w : ℕ). c.args.call ≤ w) at.2 (c.count_before-n.ensures.after k later k_in) in
          let early : is.0 < c.args.call = is.2 in
          absurd (omega arith))
          (cases_lt k n),
    )
