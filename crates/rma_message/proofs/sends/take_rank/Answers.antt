use Rattle.std.proofs.Common.{◌≡◌, ◌++◌, [], refl, sym, subst, append-nil, ◌∙◌}
use Rattle.std.specs.Map.{keys_of}
use Rattle.rma_message.specs.RankMessages.{no_messages, messages_by}
use Rattle.rma_message.specs.inside.Queue.{AreLeft}
use Rattle.rma_message.specs.inside.Matched.{AreSendPlaces}
use Rattle.rma_message.proofs.NoMessageLemmas.{calls_change_nothing}
use Rattle.rma_message.proofs.RunLemmas.{all_taken}
use Rattle.rma_message.proofs.sends.take_rank.Goals as goal

pub returns-then-not-has-clause-sends : goal.returns-then-not-has-clause-sends
returns-then-not-has-clause-sends c = λ sends left.
    let own = c.args.own.now in
    let queues = c.args.queues.now.entries in
    let calls = c.calls-calls.result.now.calls in
    let nothing : no_messages own.rank ≡ messages_by own = sym (calls_change_nothing (no_messages own.rank) 0 calls (c.has.ensures c.if-not-has.true)) ∙ all_taken own own.rank calls refl c.calls-calls.ensures in
    subst (λ m. AreLeft (sends ++ m.sends) [] queues) nothing (subst (λ es. AreLeft es [] queues) (sym (append-nil sends)) left)

pub returns-clause-sends : goal.returns-clause-sends
returns-clause-sends c = λ sends left.
    let own = c.args.own.now in
    let rank = c.rank.result in
    let places = c.in_ok-places.ensures in
    let table = c.calls-calls.result.now in
    subst (λ m. AreLeft (sends ++ m.sends) [] c.take_all.new.queues.entries) (all_taken own rank table.calls c.rank.ensures c.calls-calls.ensures)
    (c.in_ok-take_all.ensures rank sends (subst (AreSendPlaces rank (keys_of c.places_of.new.queues.entries) table.whats) (sym c.as_slice.ensures.value) places.places) (λ key. places.queues key ∙ left key))
