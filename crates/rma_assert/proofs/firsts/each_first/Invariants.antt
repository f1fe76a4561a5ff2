use Rattle.std.proofs.Common.{take}
use Rattle.rma_assert.specs.inside.Gathered.{AreFirstOf}
use Rattle.rma_assert.proofs.firsts.each_first.Given as goal

-- those before are in order, each of a call of its own
abbrev pub invariant-loop-report : goal.invariant-loop-report
invariant-loop-report l = AreFirstOf (take l.report-index l.sorted) l.out.items
