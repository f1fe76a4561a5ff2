use Rattle.std.proofs.Common.{◌≡◌, ◌++◌}
use Rattle.rma_round.specs.inside.Rounds.{row_entries}
use Rattle.rma_round.proofs.name_rounds.NameRounds.rows.Given as goal

-- the ranks before, and the others, are all
abbrev pub invariant-loop-rank : goal.invariant-loop-rank
invariant-loop-rank l = row_entries l.rows ++ l.rank-iterator ≡ l.self.ranks.entries
