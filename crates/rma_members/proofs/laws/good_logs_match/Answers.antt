use Rattle.rma_members.proofs.MemberLemmas.{matched_of}
use Rattle.rma_members.proofs.laws.good_logs_match.Goals as goal

pub returns : goal.returns
returns c = matched_of
