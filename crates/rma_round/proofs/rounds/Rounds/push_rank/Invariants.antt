use Rattle.std.proofs.Common.{◌≡◌, ◌++◌, take}
use Rattle.rma_run.specs.Run.{calls_of, by_number}
use Rattle.rma_round.specs.Edge.{edges_at}
use Rattle.rma_round.proofs.rounds.Rounds.push_rank.Given as goal

-- the edges of the calls before are there
abbrev pub invariant-loop-i : goal.invariant-loop-i
invariant-loop-i l = record {
  edges : l.links.edges ≡ l.initial.links.edges ++ by_number (edges_at (calls_of l.ranks) l.rank.rank) 0 (take l.i l.rank.calls);
  meets : l.links.meets ≡ l.initial.links.meets;
}
