use Rattle.std.proofs.Common.{◌++◌, ◌∷◌, [], cond, ap, ◌∙◌, rules}
use Rattle.std.specs.Option.{option_map_or}
use Rattle.rma_message.specs.Key.{same_key}
use Rattle.rma_message.specs.inside.Queue.{queue_of}
use Rattle.rma_message.proofs.MatchLemmas.{queue_put}
use Rattle.rma_message.proofs.queue.push.Goals as goal

pub returns-in-Some : goal.returns-in-Some
returns-in-Some c = λ key.
    let own = c.args.end.now in
    let old = c.args.queues.now.entries in
    let had = c.in-Some.ensures.value in
    let written = (c.get_mut.follows.holds c.push_back.new.self).3 (search rules) in
    queue_put old (c.get_mut.follows.lender c.push_back.new.self).entries own.key c.push_back.new.self (λ k. written.0 k) key
    ∙ ap (λ l. cond (same_key own.key key) l (queue_of old key))
    (c.in_ok-push_back.ensures.items ∙ ap (λ l. l ++ own.call ∷ []) (ap (λ o. option_map_or (λ q. q.items) o []) had))

pub returns : goal.returns
returns c = λ key.
    let own = c.args.end.now in
    let old = c.args.queues.now.entries in
    queue_put c.get_mut.follows.lender-at-none.entries c.insert.new.self.entries c.in_ok-key.key c.push_back-2.new.self (λ k. c.in_ok-insert.ensures.updates.0 k) key
    ∙ ap (λ l. cond (same_key c.in_ok-key.key key) l (queue_of c.get_mut.follows.lender-at-none.entries key))
    (c.in_ok-push_back-2.ensures.items ∙ ap (λ l. l ++ own.call ∷ []) (c.new-calls.ensures.items ∙ ap (λ o. option_map_or (λ q. q.items) o []) c.in_default.ensures.value))
    ∙ ap (λ k. cond (same_key k key) (queue_of old own.key ++ own.call ∷ []) (queue_of c.get_mut.follows.lender-at-none.entries key)) c.in_ok-key.ensures
    ∙ ap (λ es. cond (same_key own.key key) (queue_of old own.key ++ own.call ∷ []) (queue_of es key)) (ap (λ m. m.entries) c.get_mut.follows.holds-at-none)
