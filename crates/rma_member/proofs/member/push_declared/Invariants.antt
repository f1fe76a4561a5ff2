use Rattle.std.proofs.Common.{◌≡◌, ◌++◌, take}
use Rattle.rma_member.specs.Attribute.{created, declared}
use Rattle.rma_member.specs.Declaration.{declarations_of}
use Rattle.rma_member.proofs.member.push_declared.Given as goal

-- what the calls before declare
abbrev pub invariant-loop-i : goal.invariant-loop-i
invariant-loop-i l = record {
  comms : l.comms ≡ l.initial.comms ++ declarations_of declared l.own.rank (take l.i l.own.calls);
  creations : l.creations ≡ l.initial.creations ++ declarations_of created l.own.rank (take l.i l.own.calls);
}
