use Rattle.std.proofs.Common.{◌≡◌, false, take}
use Rattle.std.specs.List.{list_any}
use Rattle.rma_round.specs.inside.Met.{member_waits}
use Rattle.rma_round.proofs.meet.any_waits.Given as goal

-- the calls before do not wait
abbrev pub invariant-loop-member : goal.invariant-loop-member
invariant-loop-member l = list_any (member_waits l.ranks) (take l.member-index l.members) ≡ false
