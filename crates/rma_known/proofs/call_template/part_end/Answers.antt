use Rattle.std.proofs.Common.{◌≡◌, refl, subst, take}
use Rattle.rma_known.specs.Elsewhere.{Details, joined}
use Rattle.rma_known.specs.inside.Templates.{IsPartWord}
use Rattle.rma_known.proofs.AlikeLemmas.{part_has, some_has}
use Rattle.rma_known.proofs.call_template.part_end.Goals as goal

pub returns-in-Some-clause-taken : goal.returns-in-Some-clause-taken
returns-in-Some-clause-taken c =
    let taken = some_has (λ len. (said : Details) × IsPartWord c.args.part.part (take len c.behind.result.now) said × (c.part_len.new.found ≡ joined c.args.found.now said)) c.in_ok-len.field-0 c.in-Some.len
    c.in-Some.is c.in_ok-len.ensures.taken in
    (taken.0, part_has c.args.part c.args.known.now c.args.text.now taken.0 c.in-Some.len (c.if-not-begin_alike.ensures refl) (subst (λ them. IsPartWord c.args.part.part (take c.in-Some.len them) taken.0) c.behind.ensures taken.1), taken.2)
