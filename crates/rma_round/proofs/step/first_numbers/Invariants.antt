use Rattle.std.proofs.Common.{◌≡◌, [], take}
use Rattle.std.specs.Prelude.{All}
use Rattle.rma_round.proofs.step.first_numbers.Given as goal

-- the ranks so far have no calls
abbrev pub invariant-loop-i : goal.invariant-loop-i
invariant-loop-i l = All (λ row. row.numbers.now ≡ []) (take l.i l.rows)
