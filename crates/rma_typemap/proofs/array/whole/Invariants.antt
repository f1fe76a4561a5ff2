use Rattle.std.proofs.Common.{◌≡◌, ◌-◌, drop, length}
use Rattle.rma_typemap.proofs.Words.{cuts_of, whole_of_cuts}
use Rattle.rma_typemap.proofs.array.whole.Given as goal

abbrev pub invariant-loop-k : goal.invariant-loop-k
invariant-loop-k l = l.total ≡ whole_of_cuts (drop (length l.dimensions - l.k) (cuts_of l.order l.dimensions))
