use Rattle.std.proofs.Common.{[], inl, inr}
use Rattle.rma_concurrent.proofs.ListLemmas.{more_more}
use Rattle.rma_assert.proofs.broken.gathered.Goals as goal

pub returns : goal.returns
returns g c = λ links are.
    let starts = rw c.new-found.ensures.items at (c.in_ok-add_starts.ensures links are) in
    let stores = rw c.requires.windows at c.in_ok-add_stores.ensures in
    let updates = c.in_ok-add_updates.ensures in
    let locks = rw c.locks.ensures at (c.in_ok-add_locks.ensures links are) in
    let last = more_more c.add_stores.new.found.items c.add_updates.new.found.items c.add_locks.new.found.items updates locks (λ x is. is) (λ x is. inl is) (λ x is. inr is) in
    let later = more_more c.add_starts.new.found.items c.add_stores.new.found.items c.add_locks.new.found.items stores last (λ x is. is) (λ x is. inl is) (λ x is. inr is) in
    more_more [] c.add_starts.new.found.items c.add_locks.new.found.items starts later (λ x is. is) (λ x is. inl is) (λ x is. inr is)
