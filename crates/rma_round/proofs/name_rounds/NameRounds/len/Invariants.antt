use Rattle.std.proofs.Common.{◌≡◌, fold, length, max}
use Rattle.rma_round.specs.inside.Rounds.{rounds_in}
use Rattle.rma_round.proofs.name_rounds.NameRounds.len.Given as goal

-- the most of the ranks before, and of the others, is that of all
abbrev pub invariant-loop-numbers : goal.invariant-loop-numbers
invariant-loop-numbers l = fold (λ most entry. max most (length entry.1)) l.most l.numbers-iterator ≡ rounds_in l.self
