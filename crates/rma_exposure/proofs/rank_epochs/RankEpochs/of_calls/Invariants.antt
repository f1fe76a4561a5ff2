use Rattle.std.proofs.Common.{◌≡◌, take, length}
use Rattle.rma_exposure.specs.inside.Epochs.{AreOfRank}
use Rattle.rma_exposure.specs.inside.Places.{ArePlaces}
use Rattle.rma_exposure.proofs.rank_epochs.RankEpochs.of_calls.Given as goal

-- the calls before are taken
abbrev pub invariant-loop-i : goal.invariant-loop-i
invariant-loop-i l = record {
  taken : AreOfRank (take l.i l.calls.calls) l.epochs;
  each : length l.places.items ≡ length l.calls.whats;
  known : ArePlaces l.epochs l.calls.whats l.places.items;
}
