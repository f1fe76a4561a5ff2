use Rattle.std.proofs.Common.{◌≡◌, [], refl, sym, subst, ◌∙◌}
use Rattle.std.specs.Map.{keys_of}
use Rattle.rma_message.specs.RankMessages.{RankMessages, no_messages, messages_by}
use Rattle.rma_message.specs.inside.Matched.{ArePosted}
use Rattle.rma_message.proofs.NoMessageLemmas.{calls_change_nothing}
use Rattle.rma_message.proofs.PostedLemmas.{none_posted}
use Rattle.rma_message.proofs.RunLemmas.{all_taken}
use Rattle.rma_message.proofs.posted.posted_of.Goals as goal

pub returns-then-not-has : goal.returns-then-not-has
returns-then-not-has c =
    let own = c.args.own.now in
    let keys = keys_of c.args.queues.now.entries in
    let calls = c.calls-calls.result.now.calls in
    let nothing : no_messages own.rank ≡ messages_by own = sym (calls_change_nothing (no_messages own.rank) 0 calls (c.has.ensures c.if-not-has.true)) ∙ all_taken own own.rank calls refl c.calls-calls.ensures in
    ([], subst (λ (m : RankMessages). ArePosted own.rank keys [] m.receives c.new.result.items) nothing (subst (ArePosted own.rank keys [] []) (sym c.new.ensures.items) (none_posted own.rank keys)))
