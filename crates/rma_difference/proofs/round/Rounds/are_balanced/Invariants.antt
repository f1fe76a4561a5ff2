use Rattle.std.proofs.Common.{List}
use Rattle.rma_call.specs.Call.{RankCalls}
use Rattle.rma_member.specs.inside.Member.{AreMembers}
use Rattle.rma_difference.proofs.BalanceLemmas.{AllBalanced}
use Rattle.rma_difference.proofs.round.Rounds.are_balanced.Given as goal

-- all are balanced if those that are left are
abbrev pub invariant-loop-name : goal.invariant-loop-name
invariant-loop-name l = (ranks : List RankCalls) → AreMembers ranks l.members →
    AllBalanced l.self.kind ranks l.name-iterator → AllBalanced l.self.kind ranks l.self.names.entries
