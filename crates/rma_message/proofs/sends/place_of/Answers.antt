use Rattle.std.proofs.Common.{slice_get, sym, ap, ◌∙◌}
use Rattle.indexmap.specs.IndexMap.{keys}
use Rattle.std.proofs.lemmas.List.{length-map}
use Rattle.rma_message.proofs.ListLemmas.{at_push, before_push}
use Rattle.rma_message.proofs.MatchLemmas.{queue_added}
use Rattle.rma_message.proofs.SendLemmas.{found_at, key_added, no_entry}
use Rattle.rma_message.proofs.sends.place_of.Goals as goal

pub returns-in-Some-clause-place : goal.returns-in-Some-clause-place
returns-in-Some-clause-place c = found_at _ c.args.key c.in-Some.place c.in-Some.ensures.index

pub returns-clause-place : goal.returns-clause-place
returns-clause-place c =
    let queues = c.args.queues.now in
    let key = c.args.key in
    let added = key_added queues key c.new.result c.insert.new.self.entries (sym c.in_default.ensures.found) c.in_ok-insert.ensures.entries in
    ap (λ l. slice_get l c.len-place.result) added ∙ at_push (keys queues) key c.len-place.result (c.len-place.ensures.len ∙ sym (length-map queues.entries (λ e. e.0)))

pub returns-clause-keys : goal.returns-clause-keys
returns-clause-keys c = λ place other at.
    let queues = c.args.queues.now in
    let key = c.args.key in
    let added = key_added queues key c.new.result c.insert.new.self.entries (sym c.in_default.ensures.found) c.in_ok-insert.ensures.entries in
    ap (λ l. slice_get l place) added ∙ before_push (keys queues) key other place at

pub returns-clause-queues : goal.returns-clause-queues
returns-clause-queues c =
    let queues = c.args.queues.now in
    queue_added queues.entries c.insert.new.self.entries c.args.key c.new.result (λ k. c.in_ok-insert.ensures.updates.0 k) c.new.ensures.items (no_entry _ (sym c.in_default.ensures.found))
