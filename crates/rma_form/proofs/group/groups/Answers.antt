use Rattle.std.proofs.Common.{◌≡◌, ◌<◌, ◌≤◌, ◌/◌, [], ◌∷◌, ◌++◌, length, Ok, sym, ap, subst, ◌∙◌}
use Rattle.std.proofs.lemmas.List.{length-map}
use Rattle.std.proofs.lemmas.Result.{err_from_is_err_and}
use Rattle.rma_field.specs.Steps.{◌>>=◌, Fails}
use Rattle.rma_field.specs.Texts.{texts_at}
use Rattle.rma_form.specs.Groups.{items_read}
use Rattle.rma_form.proofs.ItemLemmas.{first_all, items_fail, items_last, items_step}
use Rattle.rma_form.proofs.group.groups.Goals as goal

pub returns-in_err-item : goal.returns-in_err-item
returns-in_err-item g c version =
    let returned = err_from_is_err_and c.from_residual.result c.from_residual.ensures.1 in
    let size = c.size-size.result in
    let is = c.size-size.ensures.is in
    let some : 0 < size = subst (λ n. 0 < n) (sym is) c.size-size.ensures.some in
    let read = g.G.Group.reading version in
    let rest = texts_at c.groups.rest.now in
    let enough : size ≤ length rest = subst (λ n. size ≤ n) (sym (length-map c.groups.rest.now (λ text. text.now))) c.groups-test.true in
    let front = first_all g.G.Group.width c.first_of.result.now (c.first_of.ensures.number ∙ is) ∙ c.first_of.ensures.texts in
    rw (returned.1, returned.2)
    (subst (λ n. Fails c.in_err-item.field-0.0 (items_read n read (length (texts_at c.args.words.now) / n) (texts_at c.args.words.now))) is
    (subst (λ read. Fails c.in_err-item.field-0.0 read) (sym (c.groups.invariant version))
    (items_fail size some read rest c.groups.items c.in_err-item.field-0.0 enough (subst (λ words. Fails c.in_err-item.field-0.0 (read words)) front (c.in_err-item.ensures version)))))

pub groups-preserved : goal.groups-preserved
groups-preserved g c version =
    let size = c.size-size.result in
    let is = c.size-size.ensures.is in
    let some : 0 < size = subst (λ n. 0 < n) (sym is) c.size-size.ensures.some in
    let read = g.G.Group.reading version in
    let rest = texts_at c.groups.rest.now in
    let enough : size ≤ length rest = subst (λ n. size ≤ n) (sym (length-map c.groups.rest.now (λ text. text.now))) c.groups-test.true in
    let front = first_all g.G.Group.width c.first_of.result.now (c.first_of.ensures.number ∙ is) ∙ c.first_of.ensures.texts in
    c.groups.invariant version
    ∙ items_step size some read rest c.groups.items c.in_ok-item.item enough (ap read (sym front) ∙ c.in_ok-item.ensures version)
    ∙ ap (λ them. items_read size read (length them / size) them >>= λ more. Ok ((c.groups.items ++ c.in_ok-item.item ∷ []) ++ more)) (sym c.behind-rest.ensures.texts)
    ∙ ap (λ done. items_read size read (length (texts_at c.behind-rest.result.now) / size) (texts_at c.behind-rest.result.now) >>= λ more. Ok (done ++ more)) (sym c.in-Ok.ensures.ok)

pub returns : goal.returns
returns g c version =
    let size = c.size-size.result in
    let read = g.G.Group.reading version in
    let rest = texts_at c.groups.rest.now in
    let few : length rest < size = subst (λ n. n < size) (sym (length-map c.groups.rest.now (λ text. text.now))) c.groups-test.false in
    subst (λ n. items_read n read (length (texts_at c.args.words.now) / n) (texts_at c.args.words.now) ≡ Ok c.groups.items) c.size-size.ensures.is
    (c.groups.invariant version ∙ items_last size (subst (λ n. 0 < n) (sym c.size-size.ensures.is) c.size-size.ensures.some) read rest c.groups.items few)
