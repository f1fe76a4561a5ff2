use Rattle.std.proofs.Common.{refl}
use Rattle.rma_known.specs.Elsewhere.{number_alone}
use Rattle.rma_known.proofs.call_template.takes_number.Goals as goal

pub returns-in-Ok : goal.returns-in-Ok
returns-in-Ok c = λ taken. (number_alone c.in-Ok.number, (c.in-Ok.number, c.in-Ok.ensures.gives, refl), c.take_number.ensures taken)
