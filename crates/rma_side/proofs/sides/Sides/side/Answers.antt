use Rattle.std.proofs.Common.{◌∙◌}
use Rattle.rma_side.proofs.SidesLemmas.{side_is}
use Rattle.rma_side.proofs.sides.Sides.side.Goals as goal

pub returns : goal.returns
returns c = rw (← c.self.view_is) (side_is c.self.inside.sides.entries c.args.number ∙ c.index.ensures)
