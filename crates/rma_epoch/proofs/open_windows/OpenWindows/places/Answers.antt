use Rattle.std.proofs.Common.{◌+◌, length, ap, sym, subst, ◌∙◌, slice_get}
use Rattle.std.proofs.lemmas.List.{length_push}
use Rattle.rma_call.specs.Call.{what_of}
use Rattle.rma_epoch.specs.inside.Windows.{ArePlaces, names_in}
use Rattle.rma_epoch.proofs.PlaceLemmas.{places_more}
use Rattle.rma_epoch.proofs.open_windows.OpenWindows.places.Goals as goal

pub loop-number-preserved : goal.loop-number-preserved
loop-number-preserved c =
    let whats = c.args.calls.now.whats in
    let places = c.loop-number.places.items in
    let place = c.in_ok-place.place in
    let old = names_in c.loop-number.self in
    let new = names_in c.place_with.new.self in
    record {
      len = ap length c.in_ok-push.ensures.items ∙ length_push places place ∙ ap (λ n. n + 1) c.loop-number.invariant.len;
      places = subst (ArePlaces c.args.windows.now new whats) (sym c.in_ok-push.ensures.items)
          (places_more c.args.windows.now old new whats places (what_of c.what.result) place c.in_ok-place.ensures.names (ap (slice_get whats) c.loop-number.invariant.len ∙ c.what.ensures) c.in_ok-place.ensures.place c.loop-number.invariant.places);
      same = λ before is. c.in_ok-place.ensures.same before (c.loop-number.invariant.same before is);
      count = c.in_ok-place.ensures.len ∙ ap (λ n. n + 1) c.loop-number.invariant.count;
      remembered = c.in_ok-place.ensures.remembered;
      parts = c.in_ok-place.ensures.parts whats (ap (slice_get whats) c.loop-number.invariant.count ∙ c.what.ensures) c.loop-number.invariant.parts;
    }
