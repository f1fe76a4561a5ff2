use Rattle.std.proofs.Common.{◌≡◌, ℕ, cond, Some, None, length, nat_eq, refl, ap, ◌∙◌}
use Rattle.std.specs.Map.{lookup}
use Rattle.rma_message.specs.Receive.{posted}
use Rattle.rma_message.proofs.ReceiveLemmas.{pending_other, pending_own}
use Rattle.rma_message.proofs.rank_messages.RankMessages.post.Goals as goal

pub invariant_of-self-in_ok-insert : goal.invariant_of-self-in_ok-insert
invariant_of-self-in_ok-insert c =
    let own = c.self.inside in
    let request = c.in-Some.request in
    let receives = own.receives.items in
    let kept : c.reserve.new.self.entries ≡ own.pending.entries = c.in_ok-reserve.ensures.entries in
    let step : (q : ℕ) → lookup (nat_eq q) c.insert.new.self.entries ≡ cond (nat_eq request q) (Some (length receives)) (lookup (nat_eq q) own.pending.entries) =
    λ q. c.in_ok-insert.ensures.updates.0 q
    ∙ ap (λ n. cond (nat_eq request q) (Some n) (lookup (nat_eq q) c.reserve.new.self.entries)) (c.len-index.ensures ∙ own.receives.ok.0)
    ∙ ap (λ es. cond (nat_eq request q) (Some (length receives)) (lookup (nat_eq q) es)) kept in
    rw (c.in_ok-push.ensures.items, c.in-Some.is)
    (pending_own request receives (posted c.in_ok-comm.comm c.args.line (Some request) None) own.pending.entries c.insert.new.self.entries c.self.invariant refl refl step)

pub invariant_of-self-in_default : goal.invariant_of-self-in_default
invariant_of-self-in_default c =
    let own = c.self.inside in
    rw (c.in_ok-push.ensures.items, c.in_ok-reserve.ensures.entries)
    (pending_other own.receives.items (posted c.in_ok-comm.comm c.args.line c.args.request None) own.pending.entries c.self.invariant c.in_default.is)
