use Rattle.std.proofs.Common.{sym, ◌∙◌}
use Rattle.rma_message.proofs.ReceiveLemmas.{open_at_within, pending_completed}
use Rattle.rma_message.proofs.rank_messages.RankMessages.wait.Goals as goal

pub complete-requires : goal.complete-requires
complete-requires c =
    let own = c.self.inside in
    let request = c.in-Some-Some.request in
    open_at_within request c.in-Some.index own.receives.items (sym (c.self.invariant request) ∙ sym c.in-Some.ensures.value)

pub invariant_of-self : goal.invariant_of-self
invariant_of-self c =
    let own = c.self.inside in
    let request = c.in-Some-Some.request in
    let received = c.in-Some-Some.received in
    rw c.complete.ensures
    (pending_completed request c.in-Some.index (record { from = received.from; tag = received.tag; call = c.args.number }) own.receives.items
    own.pending.entries c.swap_remove.new.self.entries c.self.invariant (sym c.in-Some.ensures.value) (λ q. c.in-Some.ensures.updates.0 q))
