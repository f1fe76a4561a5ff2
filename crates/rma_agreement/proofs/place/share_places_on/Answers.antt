use Rattle.std.proofs.Common.{◌<◌, length, sym, subst, ap}
use Rattle.std.specs.Option.{option_copied}
use Rattle.rma_round.specs.declared.kind.Kind.TheVariants as kind
use Rattle.rma_round.specs.inside.Rounds.{AreFoundOnName}
use Rattle.rma_agreement.specs.inside.Place.{AllPlaced}
use Rattle.rma_agreement.proofs.PlaceLemmas.{share_alone, share_placed}
use Rattle.rma_agreement.proofs.place.share_places_on.Goals as goal

pub returns-in_default : goal.returns-in_default
returns-in_default c = λ same calls name on_name found.
    share_alone calls name (subst (AreFoundOnName kind.Collective name calls) (ap option_copied c.in_default.is) found)

pub returns : goal.returns
returns c = λ same calls name on_name found.
    let movings = c.args.movings.now in
    let others = c.in-Some.others.now in
    let rows = c.in_ok-rows.rows in
    let is = c.as_slice.ensures in
    share_placed calls name movings others rows on_name (subst (AreFoundOnName kind.Collective name calls) (ap option_copied c.in-Some.is) found) c.in_ok-rows.ensures
    (λ some. subst (AllPlaced others) is (c.rows_are_placed.ensures same (subst (λ rs. 0 < length rs) (sym is) some)))
