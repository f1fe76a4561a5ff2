use Rattle.std.proofs.Common.{◌≡◌, ◌≤◌, ◌<◌, ◌-◌, ℕ, length, take, filter, slice_index_or, Some}
use Rattle.rma_cover.specs.declared.own_locks.OwnLock.{OwnLock}
use Rattle.rma_cover.specs.inside.Held.{lasts_until, opener_of}
use Rattle.rma_cover.proofs.own_locks.open.Given as goal

-- the epochs so far are opened, and those that last are held
abbrev pub invariant-epochs : goal.invariant-epochs
invariant-epochs l = record {
  begins : l.next ≤ l.end;
  ends : l.next ≤ length l.all → l.end ≤ length l.all;
  opened : (i : ℕ) (d : OwnLock) → l.next ≤ i → i < l.end → opener_of (slice_index_or l.all i d) < l.number;
  held : l.fn.held.items ≡ filter (lasts_until (Some l.number)) (take l.next l.all) → l.held.items ≡ filter (lasts_until (Some l.number)) (take l.end l.all);
}

abbrev pub decreases-epochs : goal.decreases-epochs
decreases-epochs l = length l.all - l.end
