use Rattle.std.proofs.Common.{◌≡◌, ◌++◌}
use Rattle.rma_run.specs.Run.{calls_of}
use Rattle.rma_round.specs.declared.kind.Kind.{Kind}
use Rattle.rma_round.specs.inside.Rounds.{AreOfKind}
use Rattle.rma_round.specs.inside.Met.{before_round, turn_meets}
use Rattle.rma_round.proofs.kind_rounds.KindRounds.push_meets.Given as goal

-- the meets of the turns before are there
abbrev pub invariant-loop-number : goal.invariant-loop-number
invariant-loop-number l = record {
  edges : l.links.edges ≡ l.initial.links.edges;
  meets : (kind : Kind) → AreOfKind kind (calls_of l.ranks) l.self → l.links.meets ≡ l.initial.links.meets ++ before_round (turn_meets l.ranks kind l.turns l.self.names.entries) l.number;
}
