use Rattle.std.proofs.Common.{◌≡◌, Some, None, length, slice_get, refl, sym, ◌∙◌}
use Rattle.std.proofs.lemmas.Option.{none-some, slice_get_past, slice_get_read}
use Rattle.rma_dyn.proofs.SearchLemmas.{detach_is, is_detach, no_detach}
use Rattle.rma_dyn.proofs.sorted.detach_of.Goals as goal

pub returns-in-Some : goal.returns-in-Some
returns-in-Some c = λ detach.
    let list = c.args.list.now in
    let g = c.args.attach.now in
    let place = c.behind_attach-place.result in
    let next = c.in-Some.next.now in
    let at : slice_get list place ≡ Some next = slice_get_read list (length list) place next refl c.in-Some.ensures.lookup.3.0 c.in-Some.ensures.lookup.1 in
    let before = c.behind_attach-place.ensures.before in
    let after = c.behind_attach-place.ensures.after in (
      λ is. is_detach list c.requires.rise c.requires.once g place before after next detach at (sym c.some_detach.ensures ∙ is),
      λ of. c.some_detach.ensures ∙ detach_is list c.requires.rise c.requires.once g place before after next detach at of,
    )

pub returns-in-None : goal.returns-in-None
returns-in-None c = λ detach.
    let list = c.args.list.now in
    let g = c.args.attach.now in
    let place = c.behind_attach-place.result in
    let at : slice_get list place ≡ None = slice_get_past list place c.in-None.ensures.lookup.3 in
    let before = c.behind_attach-place.ensures.before in
    let after = c.behind_attach-place.ensures.after in
    (λ is. absurd (none-some detach is), λ of. absurd (no_detach list c.requires.rise c.requires.once g place before after at detach of))
