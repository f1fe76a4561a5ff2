use Rattle.std.proofs.Common.{length, refl, subst}
use Rattle.rma_clock.specs.inside.Table.{IsUsable}
use Rattle.rma_clock.proofs.builder.Builder.raise_by.Goals as goal

pub raise_to-requires-clause-caught : goal.raise_to-requires-clause-caught
raise_to-requires-clause-caught c =
    let old = c.args.self.now in
    let usable = subst (IsUsable (length old.table.steps.items) old.links.now old.table.steps.items) c.in-Entry.is c.requires.usable in
    (usable.1 c.in-Entry.point refl).0

pub raise_to-requires-clause-pos : goal.raise_to-requires-clause-pos
raise_to-requires-clause-pos c =
    let old = c.args.self.now in
    let usable = subst (IsUsable (length old.table.steps.items) old.links.now old.table.steps.items) c.in-Entry.is c.requires.usable in
    (usable.1 c.in-Entry.point refl).2

pub share-requires-clause-usable : goal.share-requires-clause-usable
share-requires-clause-usable c =
    let old = c.args.self.now in
    subst (IsUsable (length old.table.steps.items) old.links.now old.table.steps.items) c.in-Meet.is c.requires.usable
