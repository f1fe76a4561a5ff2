use Rattle.std.proofs.Common.{◌∙◌}
use Rattle.rma_side.proofs.SidesLemmas.{number_is}
use Rattle.rma_side.proofs.sides.Sides.find.Goals as goal

pub returns-in-Some : goal.returns-in-Some
returns-in-Some c = rw (← c.self.view_is) (c.in-Some.ensures.index ∙ number_is c.args.index c.args.target c.self.inside.sides.entries)

pub returns-in-None : goal.returns-in-None
returns-in-None c = rw (← c.self.view_is) (c.in-None.ensures.index ∙ number_is c.args.index c.args.target c.self.inside.sides.entries)
