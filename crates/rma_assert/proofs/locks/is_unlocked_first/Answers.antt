use Rattle.std.proofs.Common.{ℕ, sym, subst, ◌∙◌}
use Rattle.std.proofs.lemmas.Option.{same_Some}
use Rattle.rma_link.specs.Point.{entry, return_of}
use Rattle.rma_link.specs.Order.{IsAtOrBefore}
use Rattle.rma_assert.specs.Locks.{IsUnlockedFirst}
use Rattle.rma_assert.proofs.locks.is_unlocked_first.Goals as goal

pub returns-in-Some : goal.returns-in-Some
unfolding IsUnlockedFirst
returns-in-Some g c = λ points links are one two.
    let first = c.args.first.now in
    let second = c.args.second.now in
    let close = c.in-Some.close in
    let told = (rw (c.return_from.ensures, c.entry_of.ensures) at (c.leq.ensures points links are)) (one.ended close c.in-Some.is) two.begun in (
      λ test. (close, c.in-Some.is, told.0 test),
      λ is. told.1 (subst (λ (n : ℕ). IsAtOrBefore links (return_of first.rank n) (entry second.rank second.opener)) (same_Some _ _ (sym is.1 ∙ c.in-Some.is)) is.2),
    )

pub returns-in-None : goal.returns-in-None
unfolding IsUnlockedFirst
returns-in-None g c = λ points links are one two. (λ test. absurd (cc), λ is. absurd (let so = is.1 in let none = c.in-None.is in cc))
