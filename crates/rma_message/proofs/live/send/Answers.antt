use Rattle.std.proofs.Common.{◌++◌, ◌∷◌, [], ◌*◌, cond, unwrap_or, ap, ◌∙◌}
use Rattle.rma_message.specs.Key.{same_key}
use Rattle.rma_message.specs.inside.Live.{kept_sends}
use Rattle.rma_message.proofs.LiveLemmas.{sends_put}
use Rattle.rma_message.proofs.live.send.Goals as goal

pub returns : goal.returns
returns c = λ other.
    let own = c.args.key in
    let old = c.args.sends.now.entries in
    let before = c.get_mut.follows.lender-at-none.entries in
    sends_put before c.insert.new.self.entries own c.push-2.new.self (λ k. c.in_ok-insert.ensures.updates.0 k) other
    ∙ ap (λ l. cond (same_key own other) l (kept_sends before other))
    (c.in_ok-push.ensures.ok ∙ ap (λ l. l ++ 2 * c.args.number ∷ []) (c.new-entries.ensures ∙ ap (λ o. unwrap_or o []) c.in_default.ensures.value))
    ∙ ap (λ es. cond (same_key own other) (kept_sends old own ++ 2 * c.args.number ∷ []) (kept_sends es other)) (ap (λ m. m.entries) c.get_mut.follows.holds-at-none)
