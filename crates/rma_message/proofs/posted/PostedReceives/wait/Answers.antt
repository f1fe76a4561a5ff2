use Rattle.std.proofs.Common.{◌<◌, Some, slice_get, sym, ap, subst, ◌∙◌, arith}
use Rattle.std.specs.Prelude.{IfSome, option_map}
use Rattle.std.specs.Map.{keys_of}
use Rattle.rma_base.specs.Limits.{fed_limit}
use Rattle.rma_call.specs.Call.{Call}
use Rattle.rma_message.specs.declared.posted.PostedReceives.{PostedReceives}
use Rattle.rma_message.specs.inside.Matched.{IsPlaceFor, index_at}
use Rattle.rma_message.proofs.ListLemmas.{some_at}
use Rattle.rma_message.proofs.PostedLemmas.{index_within, post_within, kept_waited}
use Rattle.rma_message.proofs.posted.PostedReceives.wait.Goals as goal

pub put_index-requires : goal.put_index-requires
put_index-requires c = index_within c.args.self.now.pending.items c.args.request c.in-Some.index (ap (λ xs. index_at xs c.args.request) (sym c.as_slice.ensures.value) ∙ sym c.index_at.ensures ∙ c.in-Some.is)

pub place_for-requires-clause-post : goal.place_for-requires-clause-post
place_for-requires-clause-post c =
    let old = c.args.self.now in
    let kept = c.requires.kept in
    let index = c.in-Some.index in
    let at = ap (λ l. slice_get l index) (sym c.as_slice-2.ensures.value) ∙ c.in-Some-open_at.ensures in
    post_within c.args.rank (keys_of c.args.queues.now.entries) c.args.calls.now.whats kept.0 old old kept.1 c.args.request c.args.received c.args.i index c.in-Some-open_at.post (ap (λ xs. index_at xs c.args.request) (sym c.as_slice.ensures.value) ∙ sym c.index_at.ensures ∙ c.in-Some.is) at

pub place_for-requires-clause-wait : goal.place_for-requires-clause-wait
place_for-requires-clause-wait c =
    let one = some_at c.args.calls.now.calls c.args.i c.requires.index in
    c.what_number-wait.ensures.what ∙ ap (option_map (λ (x : Call). x.what)) one.1 ∙ ap Some (c.requires.wait one.0 one.1)

pub returns : goal.returns
returns c = λ sent receives are.
    let old = c.args.self.now in
    let new : PostedReceives = record { receives = c.put.new.receives; pending = c.put_index.new.indexes; known = c.place_for.new.known } in
    let rank = c.args.rank in
    let keys = keys_of c.args.queues.now.entries in
    let whats = c.args.calls.now.whats in
    let index = c.in-Some.index in
    let post = c.in-Some-open_at.post in
    let at = ap (λ l. slice_get l index) (sym c.as_slice-2.ensures.value) ∙ c.in-Some-open_at.ensures in
    let is = subst (λ o. IfSome o (IsPlaceFor rank keys whats post c.args.received)) c.in-Some-2.is c.in_ok-place.ensures.place in
    let below : c.args.i < fed_limit = omega (arith, c.requires.index, c.requires.few) in
    kept_waited rank keys whats receives old new are c.args.request c.args.received c.args.i index post (ap (λ xs. index_at xs c.args.request) (sym c.as_slice.ensures.value) ∙ sym c.index_at.ensures ∙ c.in-Some.is) at c.in-Some-2.place is below c.put.ensures (λ q. c.put_index.ensures q) c.in_ok-place.ensures.known
