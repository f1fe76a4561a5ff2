use Rattle.rma_rules.proofs.ListLemmas.{OnOk_map}
use Rattle.rma_fenced.proofs.listing.list_call.Goals as goal

pub returns-clause-fences : goal.returns-clause-fences
returns-clause-fences c = OnOk_map c.list_closed.result (λ is other. rw c.in-Some.is (c.in_ok-last.ensures.updates.0 other)) c.list_closed.ensures
