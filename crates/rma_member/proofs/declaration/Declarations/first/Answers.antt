use Rattle.std.proofs.Common.{sym, ap, ◌∙◌}
use Rattle.std.specs.Option.{option_copied}
use Rattle.rma_member.specs.Declaration.{first_of}
use Rattle.rma_member.proofs.FirstIndexLemmas.{declared_first, declared_never}
use Rattle.rma_member.proofs.declaration.Declarations.first.Goals as goal

pub returns-in-Some : goal.returns-in-Some
returns-in-Some g c =
    declared_first c.self.inside.list c.self.inside.indexes.entries c.args.name.now c.self.invariant c.in-Some.index.now c.get-in-Some.result.now
    (sym c.get.ensures.value ∙ ap option_copied c.in-Some.is) c.get-in-Some.ensures
    ∙ ap (λ list. first_of list c.args.name.now) c.self.view_is

pub returns-in-None : goal.returns-in-None
returns-in-None g c =
    declared_never c.self.inside.list c.self.inside.indexes.entries c.args.name.now c.self.invariant (sym c.get.ensures.value ∙ ap option_copied c.in-None.is)
    ∙ ap (λ list. first_of list c.args.name.now) c.self.view_is
