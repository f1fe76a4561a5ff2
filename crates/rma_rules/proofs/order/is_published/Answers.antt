use Rattle.std.proofs.Common.{ℕ, ◌<◌, ◌≤◌, List, length, get_or, Contains, sym, subst, arith, ⊎_elim}
use Rattle.std.proofs.lemmas.Bool.{cases_lt}
use Rattle.std.proofs.lemmas.List.Elements.{Contains-get_or}
use Rattle.rma_base.proofs.RankSetLemmas.{rises_to}
use Rattle.rma_link.specs.Point.{entry}
use Rattle.rma_link.specs.Order.{IsAtOrBefore}
use Rattle.rma_rules.specs.Before.{IsPublished}
use Rattle.rma_rules.proofs.BeforeLemmas.{before_start_trans, call_at, entries_rise}
use Rattle.rma_rules.proofs.order.is_published.Goals as goal

pub first_entered_after-first-requires-clause-clocks : goal.first_entered_after-first-requires-clause-clocks
first_entered_after-first-requires-clause-clocks g c = let some = c.requires in rw c.publishing-calls.ensures.calls (some.0, some.1, some.2, some.3, some.5)

pub is_before_start-requires : goal.is_before_start-requires
is_before_start-requires g c =
    let some = c.requires in
    let calls = c.publishing-calls.result.now in
    let v = get_or calls c.first_entered_after-first.result 0 in
    let there = subst (λ (l : List ℕ). Contains l v) c.publishing-calls.ensures.calls (Contains-get_or calls c.first_entered_after-first.result 0 c.if-first-calls.true) in
    (some.0, some.1, some.2, rw c.entry_of.ensures (some.5 v there), some.4)

pub returns-then-first-calls : goal.returns-then-first-calls
unfolding IsPublished
returns-then-first-calls g c = λ points links are reached starts all.
    let calls = c.publishing-calls.result.now in
    let first = c.first_entered_after-first.result in
    let v = get_or calls first 0 in
    let there = subst (λ (l : List ℕ). Contains l v) c.publishing-calls.ensures.calls (Contains-get_or calls first 0 c.if-first-calls.true) in
    let each = λ (w : ℕ) (in_calls : Contains calls w). all w (subst (λ (l : List ℕ). Contains l w) c.publishing-calls.ensures.calls in_calls) in
    let told = (rw c.entry_of.ensures at (c.is_before_start.ensures points links are)) (all v there) starts in
    let found = c.first_entered_after-first.ensures in (
      λ test. (v, there, found.after points links are reached each first (omega arith) c.if-first-calls.true, told.0 test),
      λ is.
          let at = call_at calls is.0 (subst (λ (l : List ℕ). Contains l is.0) (sym c.publishing-calls.ensures.calls) is.1) in
          let k = at.0 in
          let k_in : k < length calls = at.1 in
          let order = subst (λ (w : ℕ). IsAtOrBefore links c.args.done (entry c.args.rank w)) (sym at.2) is.2 in
          ⊎_elim (λ earlier. absurd (found.before points links are reached each k earlier order))
          (λ later.
          let rise = subst (λ (w : ℕ). v ≤ w) at.2 (rises_to calls c.publishing-calls.ensures.ascend.ascend first k later k_in) in
          told.1 (before_start_trans links (entry c.args.rank v) (entry c.args.rank is.0) c.args.b.now (entries_rise links c.args.rank v is.0 rise) is.3))
          (cases_lt k first),
    )

pub returns-else-first-calls : goal.returns-else-first-calls
unfolding IsPublished
returns-else-first-calls g c = λ points links are reached starts all.
    let calls = c.publishing-calls.result.now in
    let each = λ (w : ℕ) (in_calls : Contains calls w). all w (subst (λ (l : List ℕ). Contains l w) c.publishing-calls.ensures.calls in_calls) in (
      λ test. absurd (cc),
      λ is.
          let at = call_at calls is.0 (subst (λ (l : List ℕ). Contains l is.0) (sym c.publishing-calls.ensures.calls) is.1) in
          let k_in : at.0 < length calls = at.1 in
          let order = subst (λ (w : ℕ). IsAtOrBefore links c.args.done (entry c.args.rank w)) (sym at.2) is.2 in
          absurd (c.first_entered_after-first.ensures.before points links are reached each at.0 (omega arith) order),
    )
