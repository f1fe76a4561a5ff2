use Rattle.std.proofs.Common.{◌≡◌, ◌+◌, ◌++◌}
use Rattle.std.specs.List.{filter_map}
use Rattle.rma_round.specs.inside.Rounds.{row_entries}
use Rattle.rma_round.specs.inside.Met.{member_in, met, before_round}
use Rattle.rma_round.proofs.meet.push_rounds.Given as goal

-- the meets of the rounds of the turn before are there
abbrev pub invariant-loop-k : goal.invariant-loop-k
invariant-loop-k l = record {
  edges : l.links.edges ≡ l.initial.links.edges;
  meets : l.links.meets ≡ l.initial.links.meets ++ before_round (λ k. met l.ranks (filter_map (member_in (l.from + k)) (row_entries l.rows))) l.k;
}
