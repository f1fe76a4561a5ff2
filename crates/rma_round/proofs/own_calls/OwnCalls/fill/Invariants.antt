use Rattle.std.proofs.Common.{◌≡◌, ℕ, List, [], take}
use Rattle.rma_round.specs.declared.kind.Kind.{Kind}
use Rattle.rma_round.specs.Round.{numbers}
use Rattle.rma_round.specs.inside.Lists.{list_of, lists_in, names_of, ArePlaces}
use Rattle.rma_round.proofs.own_calls.OwnCalls.fill.Given as goal

-- the calls before are in the lists
abbrev pub invariant-loop-i : goal.invariant-loop-i
invariant-loop-i l = record {
  names : (kind : Kind) → names_of kind l.self ≡ names_of kind l.initial.self;
  lists : (kind : Kind) → ArePlaces kind (names_of kind l.initial.self) l.calls.whats l.places → ((name : List ℕ) → list_of (lists_in kind l.initial.self) name ≡ [])
      → (name : List ℕ) → list_of (lists_in kind l.self) name ≡ numbers kind name (take l.i l.calls.calls);
}
