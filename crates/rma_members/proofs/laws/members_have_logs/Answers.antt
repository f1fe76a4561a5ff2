use Rattle.rma_members.proofs.MemberLemmas.{member_below}
use Rattle.rma_members.proofs.laws.members_have_logs.Goals as goal

pub returns : goal.returns
returns c = λ kind ranks name rank matched member. member_below ranks matched kind name rank member
