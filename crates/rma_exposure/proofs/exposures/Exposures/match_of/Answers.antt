use Rattle.std.proofs.Common.{◌≡◌, Some, None, Ok, Err, slice_get, position, sym, ap, subst, ◌∙◌, eqb}
use Rattle.std.specs.Option.{option_and_then}
use Rattle.std.proofs.lemmas.List.Sorted.{searched}
use Rattle.rma_exposure.specs.Opening.{opposite}
use Rattle.rma_exposure.specs.Matching.{numbers}
use Rattle.rma_run.proofs.PositionLemmas.{Rises, never_falls, position_at, position_none, copied_at, apart}
use Rattle.rma_exposure.proofs.PositionLemmas.{rises}
use Rattle.rma_exposure.proofs.exposures.Exposures.match_of.Goals as goal

pub returns-in-Ok : goal.returns-in-Ok
returns-in-Ok c = λ calls are.
    let own = c.numbers.result.now in
    let other = c.args.other.0 in
    let window = c.args.window.now in
    let is = c.numbers.ensures calls are in
    let up : Rises own = subst Rises (sym is) (rises c.args.side window other (calls c.args.rank.0)) in
    let found = searched own c.args.number (Ok c.in-Ok.place) c.in-Ok.ensures.position (never_falls own up) in
    let place : position (λ m. eqb m c.args.number) (numbers c.args.side window other (calls c.args.rank.0)) ≡ Some c.in-Ok.place =
    ap (position (λ m. eqb m c.args.number)) (sym is) ∙ position_at c.args.number own c.in-Ok.place up found.0 found.1 in
    let theirs : c.numbers-numbers.result.now ≡ numbers (opposite c.args.side) window c.args.rank.0 (calls other) =
    c.numbers-numbers.ensures calls are ∙ ap (λ side. numbers side window c.args.rank.0 (calls other)) c.opposite.ensures in
    c.copied.ensures
    ∙ copied_at c.numbers-numbers.result.now c.in-Ok.place c.get.result c.get.ensures.lookup.1 c.get.ensures.lookup.3
    ∙ ap (λ list. slice_get list c.in-Ok.place) theirs
    ∙ sym (ap (option_and_then (slice_get (numbers (opposite c.args.side) window c.args.rank.0 (calls other)))) place)

pub returns-in-Err : goal.returns-in-Err
returns-in-Err c = λ calls are.
    let own = c.numbers.result.now in
    let other = c.args.other.0 in
    let window = c.args.window.now in
    let is = c.numbers.ensures calls are in
    let up : Rises own = subst Rises (sym is) (rises c.args.side window other (calls c.args.rank.0)) in
    let found = searched own c.args.number (Err c.in-Err.field-0) c.in-Err.ensures.position (never_falls own up) in
    let none : position (λ m. eqb m c.args.number) (numbers c.args.side window other (calls c.args.rank.0)) ≡ None =
    ap (position (λ m. eqb m c.args.number)) (sym is) ∙ position_none c.args.number own (apart own c.args.number c.in-Err.field-0 found.1 found.2) in
    sym (ap (option_and_then (slice_get (numbers (opposite c.args.side) window c.args.rank.0 (calls other)))) none)
