use Rattle.std.proofs.Common.{◌≡◌, ◌<◌, length, get_or, slice_get, sym, ap, ◌∙◌, arith}
use Rattle.std.proofs.lemmas.Option.{slice_get_within}
use Rattle.rma_agreement.specs.inside.Place.{place_among, place_in_round}
use Rattle.rma_agreement.proofs.PlaceLemmas.{next_before, place_here}
use Rattle.rma_round.proofs.RowLemmas.{before_or_here}
use Rattle.rma_agreement.proofs.place.have_places.Goals as goal

pub loop-round-preserved : goal.loop-round-preserved
loop-round-preserved c =
    let first_others = c.args.first_others.now in
    let first = c.args.first.now in
    let others = c.args.others.now in
    let own = c.args.own.now in
    let r = c.loop-round.round in
    let place = c.place_from-place.result in
    let so_far = c.loop-round.invariant in
    let here : r < length own = c.loop-round-test.true in
    let first_here : r < length first = omega (arith, c.loop-round-test.true, c.if-own-first.false) in
    let same : place ≡ c.place_from-first_place.result = c.if-place-first_place.false in
    record {
      first_within = omega (arith, same, c.place_from-first_place.ensures.within);
      within = c.place_from-place.ensures.within;
      first_before = λ ascends. next_before first_others first r place ascends (same ∙ c.place_from-first_place.ensures.place (so_far.first_before ascends r (omega arith) first_here));
      before = λ ascends. next_before others own r place ascends (c.place_from-place.ensures.place (so_far.before ascends r (omega arith) here));
      so_far = λ first_ascends ascends round number below at.
          before_or_here (place_among others number ≡ place_in_round first_others first round) round r below
          (λ before. so_far.so_far first_ascends ascends round number before at)
          (λ is.
          let one : place_among others (get_or own r 0) ≡ place_among first_others (get_or first r 0) =
          sym (c.place_from-place.ensures.place (so_far.before ascends r (omega arith) here))
          ∙ same
          ∙ c.place_from-first_place.ensures.place (so_far.first_before first_ascends r (omega arith) first_here) in
          place_here first_others first others own r number one first_here (ap (slice_get own) (sym is) ∙ at) ∙ ap (place_in_round first_others first) (sym is));
    }

pub returns : goal.returns
returns c = λ same first_ascends ascends round number at.
    let within = slice_get_within c.args.own.now round number at in
    c.loop-round.invariant.so_far first_ascends ascends round number (omega (arith, within, c.loop-round-test.false)) at
