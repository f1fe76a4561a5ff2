use Rattle.std.proofs.Common.{◌≡◌, ◌++◌}
use Rattle.std.specs.List.{flat_map}
use Rattle.rma_run.specs.Run.{calls_of, by_number}
use Rattle.rma_exposure.specs.Edge.{edges_at}
use Rattle.rma_exposure.proofs.WalkLemmas.{had_at}
use Rattle.rma_exposure.proofs.exposures.Exposures.push_rank_edges.Given as goal

-- the edges to the posts before, and those to the others, are those to all calls
abbrev pub invariant-loop-number : goal.invariant-loop-number
invariant-loop-number l = record {
  edges : l.links.edges ++ flat_map (λ e. had_at (edges_at (calls_of l.ranks) l.rank.rank) l.rank.calls e.0) l.number-iterator ≡ l.initial.links.edges ++ by_number (edges_at (calls_of l.ranks) l.rank.rank) 0 l.rank.calls;
  meets : l.links.meets ≡ l.initial.links.meets;
}
