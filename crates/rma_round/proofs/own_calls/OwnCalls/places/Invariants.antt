use Rattle.std.proofs.Common.{◌≡◌, ℕ, List, length}
use Rattle.rma_round.specs.declared.kind.Kind.{Kind}
use Rattle.rma_round.specs.inside.Lists.{list_of, lists_in, names_of, ArePlaces}
use Rattle.rma_round.proofs.own_calls.OwnCalls.places.Given as goal

-- the places of the numbers before are there, and the lists are as they were
abbrev pub invariant-loop-number : goal.invariant-loop-number
invariant-loop-number l = record {
  len : length l.places.items ≡ l.number;
  places : (kind : Kind) → ArePlaces kind (names_of kind l.self) l.calls.whats l.places.items;
  lists : (kind : Kind) (name : List ℕ) → list_of (lists_in kind l.self) name ≡ list_of (lists_in kind l.initial.self) name;
}
