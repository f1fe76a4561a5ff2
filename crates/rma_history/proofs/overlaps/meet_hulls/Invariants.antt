use Rattle.std.proofs.Common.{◌≡◌, ◌⊎◌, ◌<◌, ◌≤◌, ℕ, ℤ, Some, Contains, length, slice_get}
use Rattle.rma_history.specs.declared.reach.Hull.{Hull}
use Rattle.rma_history.specs.inside.Hull.{IsWithin}
use Rattle.rma_history.proofs.overlaps.meet_hulls.Given as goal

-- the indices looked at so far
abbrev pub invariant-hulls : goal.invariant-hulls
invariant-hulls l = record {
  found : (i : ℕ) (other : Hull) (b : ℤ) → l.from ≤ i → i < l.index → slice_get l.hulls i ≡ Some other → IsWithin other b → IsWithin l.hull b → Contains l.met.items i;
  still : (i : ℕ) → Contains l.initial.met.items i → Contains l.met.items i;
  bound : (i : ℕ) → Contains l.met.items i → Contains l.initial.met.items i ⊎ (i < length l.hulls);
}
