use Rattle.std.proofs.Common.{◌≡◌, ◌++◌}
use Rattle.std.specs.List.{flat_map}
use Rattle.rma_run.specs.Run.{calls_of}
use Rattle.rma_round.specs.declared.kind.Kind.{Kind}
use Rattle.rma_round.specs.inside.Rounds.{AreOfKind}
use Rattle.rma_round.specs.inside.Met.{name_meets}
use Rattle.rma_round.proofs.kind_rounds.KindRounds.push_turn.Given as goal

-- the meets on the names before, and those on the others, are those on all
abbrev pub invariant-loop-rounds : goal.invariant-loop-rounds
invariant-loop-rounds l = record {
  edges : l.links.edges ≡ l.initial.links.edges;
  meets : (kind : Kind) → AreOfKind kind (calls_of l.ranks) l.self → l.links.meets ++ flat_map (name_meets l.ranks kind l.turn.of l.turn.number) l.rounds-iterator ≡ l.initial.links.meets ++ flat_map (name_meets l.ranks kind l.turn.of l.turn.number) l.self.names.entries;
}
