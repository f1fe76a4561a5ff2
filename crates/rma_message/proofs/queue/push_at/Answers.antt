use Rattle.std.proofs.Common.{◌++◌, ◌∷◌, [], slice_get, cond, ap, sym, ◌∙◌}
use Rattle.std.proofs.lemmas.Option.{same_Some}
use Rattle.indexmap.specs.IndexMap.{keys}
use Rattle.indexmap.proofs.CallerLemmas.{keys-with_value_at}
use Rattle.rma_message.specs.Key.{same_key}
use Rattle.rma_message.specs.inside.Queue.{queue_of}
use Rattle.rma_message.proofs.MatchLemmas.{no_queue, queue_at, queue_written}
use Rattle.rma_message.proofs.queue.push_at.Goals as goal

pub returns-in_ok-push_back-clause-keys : goal.returns-in_ok-push_back-clause-keys
returns-in_ok-push_back-clause-keys c = keys-with_value_at c.args.queues.now c.in-Some.index c.push_back.new.self

pub returns-in_ok-push_back-clause-some : goal.returns-in_ok-push_back-clause-some
returns-in_ok-push_back-clause-some c = λ index own at there key.
    let queues = c.args.queues.now in
    let place = c.in-Some.index in
    let before = c.in-Some-get_index_mut.calls.now in
    let after = c.push_back.new.self in
    let unique = c.in-Some-get_index_mut.ensures.unique in
    let value = sym c.in-Some-get_index_mut.ensures.value in
    let here = ap (slice_get (keys queues)) (same_Some place index (sym c.in-Some.is ∙ at)) ∙ there in
    queue_written queues place own before after unique here value key
    ∙ ap (λ l. cond (same_key own key) l (queue_of queues.entries key))
    (c.in_ok-push_back.ensures.items ∙ ap (λ l. l ++ c.args.call ∷ []) (sym (queue_at queues place own before after unique here value)))

pub returns-in_default-get_index_mut-clause-some : goal.returns-in_default-get_index_mut-clause-some
returns-in_default-get_index_mut-clause-some c = λ index own at there key.
    let queues = c.args.queues.now in
    let place = c.in-Some.index in
    no_queue queues.entries place own (ap (slice_get (keys queues)) (same_Some place index (sym c.in-Some.is ∙ at)) ∙ there) c.in_default-get_index_mut.ensures.value
