use Rattle.std.proofs.Common.{◌≡◌, Some, slice_get, sym, ap, subst, ◌∙◌, arith}
use Rattle.std.specs.Option.{option_copied}
use Rattle.std.proofs.lemmas.Option.{same_Some}
use Rattle.rma_round.specs.declared.kind.Kind.TheVariants as kind
use Rattle.rma_round.specs.inside.Rounds.{AreFoundOnName, names_in}
use Rattle.rma_agreement.specs.inside.Place.{SharePlaces}
use Rattle.rma_agreement.proofs.PlaceLemmas.{share_unused}
use Rattle.rma_round.proofs.RowLemmas.{before_or_here}
use Rattle.rma_agreement.proofs.RowLemmas.{every_name}
use Rattle.rma_agreement.proofs.place.share_places.Goals as goal

pub loop-i-preserved : goal.loop-i-preserved
loop-i-preserved c = λ calls j name represents below at.
    let names = names_in c.of_kind-movings.result.now in
    before_or_here (SharePlaces kind.Moving calls name) j c.loop-i.i below
    (λ before. c.loop-i.invariant calls j name represents before at)
    (λ same.
    let there : slice_get names c.loop-i.i ≡ Some name = ap (slice_get names) (sym same) ∙ at in
    let is : c.name.result.now ≡ name = same_Some c.name.result.now name (sym c.name.ensures ∙ there) in
    let found = c.find-others.ensures kind.Collective calls (c.of_kind-collectives.ensures calls represents) in
    c.in_ok-share_places_on.ensures c.if-not-branch.false calls name
    (c.rounds.ensures kind.Moving calls (c.of_kind-movings.ensures calls represents) name there)
    (subst (λ n. AreFoundOnName kind.Collective n calls (option_copied c.find-others.result)) is found))

pub returns : goal.returns
returns c = λ same calls represents.
    every_name kind.Moving calls (names_in c.of_kind-movings.result.now) (λ name. SharePlaces kind.Moving calls name)
    (c.len-i-end.ensures.each kind.Moving calls (c.of_kind-movings.ensures calls represents))
    (λ j name below at. c.loop-i.invariant calls j name represents (omega (arith, below, c.loop-i-test.false, c.len-i-end.ensures.count)) at)
    (share_unused kind.Moving calls)
