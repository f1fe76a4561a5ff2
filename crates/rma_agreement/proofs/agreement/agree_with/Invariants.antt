use Rattle.std.proofs.Common.{take}
use Rattle.std.specs.Prelude.{All}
use Rattle.rma_agreement.specs.inside.Agreement.{RowAgrees}
use Rattle.rma_agreement.proofs.agreement.agree_with.Given as goal

-- the ranks so far agree
abbrev pub invariant-loop-i : goal.invariant-loop-i
invariant-loop-i l = All (RowAgrees l.ranks l.first) (take l.i l.rows)
