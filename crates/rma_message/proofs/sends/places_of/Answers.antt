use Rattle.std.proofs.Common.{◌+◌, slice_get, length, sym, ap, subst, ◌∙◌}
use Rattle.std.specs.Map.{keys_of}
use Rattle.std.proofs.lemmas.List.{length_push}
use Rattle.rma_call.specs.Call.{what_of}
use Rattle.rma_message.specs.inside.Matched.{AreSendPlaces}
use Rattle.rma_message.proofs.SendLemmas.{AreSendPlaces_more}
use Rattle.rma_message.proofs.sends.places_of.Goals as goal

pub loop-number-preserved : goal.loop-number-preserved
loop-number-preserved c =
    let whats = c.args.calls.now.whats in
    let places = c.loop-number.places.items in
    let place = c.in_ok-place.place in
    let old = keys_of c.loop-number.queues.entries in
    let new = keys_of c.send_place.new.queues.entries in
    let given = c.in_ok-place.ensures in
    record {
      len = ap length c.in_ok-push.ensures.items ∙ length_push places place ∙ ap (λ n. n + 1) c.loop-number.invariant.len;
      places =
          subst (AreSendPlaces c.args.rank new whats) (sym c.in_ok-push.ensures.items)
          (AreSendPlaces_more c.args.rank old new whats places (what_of c.what.result) place given.keys (ap (slice_get whats) c.loop-number.invariant.len ∙ c.what.ensures) given.place c.loop-number.invariant.places);
      queues = λ key. given.queues key ∙ c.loop-number.invariant.queues key;
    }
