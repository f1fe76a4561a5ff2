use Rattle.std.proofs.Common.{◌≡◌, None, length}
use Rattle.std.specs.Prelude.{All}
use Rattle.rma_exposure.proofs.rank_epochs.no_places.Given as goal

-- there is no place for each of the numbers before
abbrev pub invariant-loop : goal.invariant-loop
invariant-loop l = record {
  len : length l.places.items ≡ l.counter;
  none : All (λ place. place ≡ None) l.places.items;
}
