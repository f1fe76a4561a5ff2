use Rattle.std.proofs.Common.{◌≡◌}
use Rattle.rma_history.specs.inside.Overlaps.{StandOnBytes}
use Rattle.rma_history.proofs.overlaps.Overlaps.settle.Given as goal

abbrev pub invariant-chains : goal.invariant-chains
invariant-chains l = record {
  same : l.self-inside.chains ≡ l.initial.self-inside.chains;
  settled : l.self-inside.settled ≡ l.index;
  stands : StandOnBytes l.self-inside.chains.items l.self-inside.hulls.items l.self-inside.cells l.self-inside.settled;
}
