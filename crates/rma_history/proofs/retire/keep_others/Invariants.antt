use Rattle.std.proofs.Common.{◌⊎◌, ℕ, List, Contains, vec_len}
use Rattle.rma_link.specs.declared.links.Links.{Links}
use Rattle.rma_rules.specs.Access.{Access}
use Rattle.rma_history.specs.History.{AreKnown, IsPassed}
use Rattle.rma_history.specs.inside.Overlaps.{accesses_of}
use Rattle.rma_history.specs.inside.Passed.{AreBehind}
use Rattle.rma_history.proofs.retire.keep_others.Given as goal

abbrev pub invariant-chains : goal.invariant-chains
invariant-chains g l = record {
  left : (a : Access) → Contains (accesses_of l.chains.items) a → Contains (accesses_of l.initial.chains.items) a;
  kept : (a : Access) → Contains (accesses_of l.kept) a → Contains (accesses_of l.initial.kept) a ⊎ Contains (accesses_of l.initial.chains.items) a;
  still : (a : Access) → Contains (accesses_of l.initial.kept) a → Contains (accesses_of l.kept) a;
  gone : (points : List ℕ) (links : Links) → g.C.Clocks.are_of l.clocks points links → ((a : Access) → Contains (accesses_of l.initial.chains.items) a → AreKnown points l.windows l.lists l.next a)
      → (a : Access) → Contains (accesses_of l.initial.chains.items) a → Contains (accesses_of l.chains.items) a ⊎ (Contains (accesses_of l.kept) a ⊎ IsPassed links l.windows l.lists l.next a);
  behind : (points : List ℕ) (links : Links) → g.C.Clocks.are_of l.clocks points links → ((a : Access) → Contains (accesses_of l.initial.chains.items) a → AreKnown points l.windows l.lists l.next a)
      → AreBehind links l.next l.horizon;
}

abbrev pub decreases-chains : goal.decreases-chains
decreases-chains g l = vec_len l.chains
