use Rattle.std.proofs.Common.{◌∙◌}
use Rattle.rma_buffer.proofs.ElementLemmas.{allowed_one, refused_mixed}
use Rattle.rma_buffer.proofs.element.is_allowed.Goals as goal

pub returns-in-One : goal.returns-in-One
returns-in-One c basics h = c.allows.ensures ∙ allowed_one c.args.operation c.args.component c.in-One.basic basics c.in-One.is h

pub returns-in-Mixed : goal.returns-in-Mixed
returns-in-Mixed c basics h = refused_mixed c.args.operation c.args.component basics c.in-Mixed.is h
