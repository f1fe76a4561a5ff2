use Rattle.std.proofs.Common.{drop, [], cond, ap, ◌∙◌, rules}
use Rattle.std.specs.Option.{option_map_or}
use Rattle.rma_message.specs.Key.{same_key}
use Rattle.rma_message.specs.inside.Queue.{queue_of}
use Rattle.rma_message.proofs.MatchLemmas.{queue_put}
use Rattle.rma_message.proofs.queue.pop.Goals as goal

pub returns-in-Some-clause-rest : goal.returns-in-Some-clause-rest
returns-in-Some-clause-rest c = λ key.
    let own = c.args.key.now in
    let old = c.args.queues.now.entries in
    let written = (c.get_mut.follows.holds c.pop_front.new.self).3 (search rules) in
    queue_put old (c.get_mut.follows.lender c.pop_front.new.self).entries own c.pop_front.new.self (λ k. written.0 k) key
    ∙ ap (λ l. cond (same_key own key) l (queue_of old key))
    (c.pop_front.ensures.rest ∙ ap (drop 1) (ap (λ o. option_map_or (λ q. q.items) o []) c.in-Some.ensures.value))
