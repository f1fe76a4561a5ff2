use Rattle.std.proofs.Common.{ap, ◌∙◌}
use Rattle.std.specs.Map.{keys_of}
use Rattle.rma_call.specs.Call.{what_of}
use Rattle.rma_call.specs.declared.what.What.TheVariants.{Sync}
use Rattle.rma_call.specs.declared.what.SyncCall.TheVariants.{Message}
use Rattle.rma_message.proofs.PostedLemmas.{if_some, received_at}
use Rattle.rma_message.proofs.posted.step_of.Goals as goal

pub returns-in-Some : goal.returns-in-Some
returns-in-Some c =
    received_at c.args.rank (keys_of c.args.queues.now.entries) (what_of c.args.what) c.in-Recv.from c.in-Recv.tag _ c.in-Some.place
    (ap what_of c.in-Message.is ∙ ap (λ m. Sync (Message m)) c.in-Recv.is) (if_some _ _ _ c.in-Some.is c.in_ok-place-in-Recv.ensures)
