use Rattle.std.proofs.Common.{◌+◌, slice_get, length, sym, ap, subst, ◌∙◌}
use Rattle.std.proofs.lemmas.List.{length_push}
use Rattle.rma_call.specs.Call.{what_of}
use Rattle.rma_round.specs.inside.Lists.{names_of, ArePlaces}
use Rattle.rma_round.proofs.OwnLemmas.{ArePlaces_more}
use Rattle.rma_round.proofs.own_calls.OwnCalls.places.Goals as goal

pub loop-number-preserved : goal.loop-number-preserved
loop-number-preserved c =
    let whats = c.args.calls.now.whats in
    let places = c.loop-number.places.items in
    let place = c.in_ok-place.place in
    record {
      len = ap length c.in_ok-push.ensures.items ∙ length_push places place ∙ ap (λ n. n + 1) c.loop-number.invariant.len;
      places = λ kind.
          let old = names_of kind c.loop-number.self in
          let new = names_of kind c.place_for.new.self in
          subst (ArePlaces kind new whats) (sym c.in_ok-push.ensures.items)
          (ArePlaces_more kind old new whats places (what_of c.what.result) place (c.in_ok-place.ensures.names kind) (ap (slice_get whats) c.loop-number.invariant.len ∙ c.what.ensures) (c.in_ok-place.ensures.place kind)
          (c.loop-number.invariant.places kind));
      lists = λ kind name. c.in_ok-place.ensures.lists kind name ∙ c.loop-number.invariant.lists kind name;
    }
