use Rattle.std.proofs.Common.{rules, ◌≡◌, drop, slice_get, cond, ap, sym, ◌∙◌}
use Rattle.indexmap.proofs.CallerLemmas.{keys-with_value_at}
use Rattle.rma_message.specs.Key.{same_key}
use Rattle.rma_message.specs.inside.Queue.{queue_of}
use Rattle.rma_message.proofs.MatchLemmas.{no_queue, queue_at, queue_written}
use Rattle.rma_message.proofs.queue.pop_at.Goals as goal

pub returns-in-Some-clause-keys : goal.returns-in-Some-clause-keys
returns-in-Some-clause-keys c = keys-with_value_at c.args.queues.now c.args.place c.pop_front.new.self

pub returns-in-Some-clause-first : goal.returns-in-Some-clause-first
returns-in-Some-clause-first c = λ own there.
    let first : c.pop_front.result ≡ slice_get c.in-Some.own.now.items 0 = search rules in
    first
    ∙ ap (λ l. slice_get l 0) (sym (queue_at c.args.queues.now c.args.place own c.in-Some.own.now c.pop_front.new.self c.in-Some.ensures.unique there (sym c.in-Some.ensures.value)))

pub returns-in-Some-clause-rest : goal.returns-in-Some-clause-rest
returns-in-Some-clause-rest c = λ own there key.
    let queues = c.args.queues.now in
    queue_written queues c.args.place own c.in-Some.own.now c.pop_front.new.self c.in-Some.ensures.unique there (sym c.in-Some.ensures.value) key
    ∙ ap (λ l. cond (same_key own key) l (queue_of queues.entries key))
    (c.pop_front.ensures.rest ∙ ap (drop 1) (sym (queue_at queues c.args.place own c.in-Some.own.now c.pop_front.new.self c.in-Some.ensures.unique there (sym c.in-Some.ensures.value))))

pub returns-in-None-clause-first : goal.returns-in-None-clause-first
returns-in-None-clause-first c = λ own there. no_queue c.args.queues.now.entries c.args.place own there c.in-None.ensures.value

pub returns-in-None-clause-rest : goal.returns-in-None-clause-rest
returns-in-None-clause-rest c = λ own there key. no_queue c.args.queues.now.entries c.args.place own there c.in-None.ensures.value
