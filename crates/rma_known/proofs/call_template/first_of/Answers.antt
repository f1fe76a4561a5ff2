use Rattle.std.proofs.Common.{ap}
use Rattle.rma_lex.specs.Field.{texts}
use Rattle.rma_known.proofs.call_template.first_of.Goals as goal

pub returns-in-Some : goal.returns-in-Some
returns-in-Some c = (texts c.next.new.self, ap texts c.in-Some.ensures.steps)
