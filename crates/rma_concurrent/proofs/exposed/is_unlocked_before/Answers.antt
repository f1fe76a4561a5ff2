use Rattle.std.proofs.Common.{ℕ, sym, subst, ◌∙◌}
use Rattle.std.proofs.lemmas.Option.{same_Some}
use Rattle.rma_link.specs.Point.{return_of}
use Rattle.rma_link.specs.Order.{IsAtOrBefore}
use Rattle.rma_concurrent.specs.Concurrent.{IsUnlockedBefore}
use Rattle.rma_concurrent.proofs.exposed.is_unlocked_before.Goals as goal

pub returns-in-Some : goal.returns-in-Some
unfolding IsUnlockedBefore
returns-in-Some g c = λ points links are locked exposed.
    let lock = c.args.lock.now in
    let exposure = c.args.exposure.now in
    let close = c.in-Some.close in
    let told = (rw (c.return_from-in-Some.ensures, c.return_from.ensures) at (c.leq.ensures points links are)) (locked.ended close c.in-Some.is) exposed.begun in (
      λ test. (close, c.in-Some.is, told.0 test),
      λ is. told.1 (subst (λ (n : ℕ). IsAtOrBefore links (return_of lock.rank n) (return_of exposure.target exposure.opener)) (same_Some _ _ (sym is.1 ∙ c.in-Some.is)) is.2),
    )

pub returns-in-None : goal.returns-in-None
unfolding IsUnlockedBefore
returns-in-None g c = λ points links are locked exposed. (λ test. absurd (cc), λ is. absurd (let so = is.1 in let none = c.in-None.is in cc))
