-- What is kept of the communicators and windows of a run.
use Rattle.std.specs.Prelude.{◌≡◌, List}
use Rattle.rma_call.specs.Call.{RankCalls}
use Rattle.rma_member.specs.declared.member.Members.{Members}
use Rattle.rma_member.specs.Declaration.{declarations}
use Rattle.rma_member.specs.Attribute.{declared, created}
use Rattle.rma_member.specs.Member.{everyone}

-- what is kept are the communicators and the windows of this run
pub record AreMembers (ranks : List RankCalls) (kept : Members) : Type 0 where
  pub comms_are : kept.comms ≡ declarations declared ranks
  pub creations_are : kept.creations ≡ declarations created ranks
  pub everyone_is : kept.everyone.items ≡ everyone ranks
