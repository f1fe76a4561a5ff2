use Rattle.std.proofs.Common.{◌≡◌, None, Some, slice_get, get_or, sym, ap, subst, ◌∙◌, arith}
use Rattle.std.specs.Prelude.{option_map}
use Rattle.std.proofs.lemmas.Option.{slice_get-get_or}
use Rattle.rma_call.specs.Call.{Call}
use Rattle.rma_message.specs.inside.Matched.{IsSendPlace}
use Rattle.rma_message.proofs.ListLemmas.{some_at}
use Rattle.rma_message.proofs.SendLemmas.{sent_more}
use Rattle.rma_message.proofs.sends.take_all.Goals as goal

pub loop-i-preserved : goal.loop-i-preserved
loop-i-preserved c =
    let calls = c.args.calls.now.calls in
    let places = c.args.places.now in
    let i = c.loop-i.i in
    let old = c.loop-i.queues.entries in
    let number = c.what_number.result in
    let one = some_at calls i (omega (arith, c.loop-i-test.true, c.len-i-end.ensures)) in
    let call = one.0 in
    let what_at = c.what_number.ensures.what ∙ ap (option_map (λ (x : Call). x.what)) one.1 in
    let place = get_or places number None in
    let place_at : slice_get places number ≡ Some place = slice_get-get_or places number None (omega (arith, c.what_number.ensures.within, c.requires.each)) in
    let push = c.in_ok-push_at.ensures in
    record {
      keys = push.keys ∙ c.loop-i.invariant.keys;
      sends = λ rank sends are left.
          sent_more rank old c.push_at.new.queues.entries sends calls i call place one.1
          (subst (λ ks. IsSendPlace rank ks call.what place) (sym c.loop-i.invariant.keys) (are number call.what place what_at place_at))
          push.none push.some (c.loop-i.invariant.sends rank sends are left);
    }
