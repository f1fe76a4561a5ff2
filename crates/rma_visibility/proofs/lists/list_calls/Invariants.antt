use Rattle.std.proofs.Common.{take}
use Rattle.rma_visibility.specs.Visibility.{AreListed, AreOthersSame}
use Rattle.rma_visibility.proofs.lists.list_calls.Given as goal

-- the calls before are listed
abbrev pub invariant-loop-i : goal.invariant-loop-i
invariant-loop-i l = record {
  own : AreListed l.windows l.rank (take l.i l.calls.calls) l.spans;
  others : AreOthersSame l.rank l.initial.spans l.spans;
}
