use Rattle.std.proofs.Common.{◌≡◌, take}
use Rattle.rma_member.specs.Attribute.{created, declared}
use Rattle.rma_member.specs.Declaration.{declarations}
use Rattle.rma_member.proofs.member.Members.of_calls.Given as goal

-- what the ranks before declare
abbrev pub invariant-loop-own : goal.invariant-loop-own
invariant-loop-own l = record {
  comms : l.comms ≡ declarations declared (take l.own-index l.ranks);
  creations : l.creations ≡ declarations created (take l.own-index l.ranks);
}
