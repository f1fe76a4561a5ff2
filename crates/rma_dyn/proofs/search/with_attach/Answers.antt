use Rattle.std.proofs.Common.{sym, subst, ◌∙◌, arith}
use Rattle.std.proofs.lemmas.Option.{none-some, same_Some}
use Rattle.rma_dyn.specs.inside.Search.{IsCover}
use Rattle.rma_dyn.proofs.CoverLemmas.{with_gone, with_kept}
use Rattle.rma_dyn.proofs.search.with_attach.Goals as goal

pub returns-then-detach-freed : goal.returns-then-detach-freed
returns-then-detach-freed c = λ a bound holds known.
    let list = c.args.list.now in
    let of = (c.detach_of.ensures c.in-Some.detach).0 c.in-Some.is in
    subst (IsCover list a bound c.args.freed c.args.index) (sym c.later.ensures) (with_gone list a bound c.args.freed c.args.index c.args.attach.now c.requires.place holds c.args.cover c.in-Some.detach of c.if-detach-freed.true known)

pub returns-else-detach-freed : goal.returns-else-detach-freed
returns-else-detach-freed c = λ a bound holds known.
    with_kept c.args.list.now a bound c.args.freed c.args.index c.args.attach.now c.requires.place holds
    (λ gone.
    let same = same_Some _ _ (sym c.in-Some.is ∙ (c.detach_of.ensures gone.detach).1 gone.of) in
    let late = c.if-detach-freed.false in
    let early = gone.early in
    absurd (let no : ⊥ = grind arith in no))

pub returns-in-None : goal.returns-in-None
returns-in-None c = λ a bound holds known.
    with_kept c.args.list.now a bound c.args.freed c.args.index c.args.attach.now c.requires.place holds (λ gone. absurd (none-some gone.detach (sym c.in-None.is ∙ (c.detach_of.ensures gone.detach).1 gone.of)))
