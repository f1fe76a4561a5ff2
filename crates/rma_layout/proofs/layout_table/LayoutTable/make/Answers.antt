use Rattle.rma_layout.proofs.KnownLemmas.{known_after_make}
use Rattle.rma_layout.proofs.layout_table.LayoutTable.make.Goals as goal

pub invariant_of-self : goal.invariant_of-self
invariant_of-self c =
    known_after_make c.make.result c.self.inside.types c.make.new.self c.args.name.now c.args.constructor c.self.inside.known.items c.make.ensures.ok c.make.ensures.err c.self.invariant
