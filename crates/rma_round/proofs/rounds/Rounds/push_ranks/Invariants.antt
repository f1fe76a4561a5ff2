use Rattle.std.proofs.Common.{◌≡◌, ◌++◌, take}
use Rattle.rma_run.specs.Run.{calls_of, by_rank}
use Rattle.rma_round.specs.Edge.{edges_at}
use Rattle.rma_round.proofs.rounds.Rounds.push_ranks.Given as goal

-- the edges of the calls of the ranks before are there
abbrev pub invariant-loop-rank : goal.invariant-loop-rank
invariant-loop-rank l = record {
  edges : l.links.edges ≡ l.initial.links.edges ++ by_rank (edges_at (calls_of l.ranks)) (take l.rank-index l.ranks);
  meets : l.links.meets ≡ l.initial.links.meets;
}
