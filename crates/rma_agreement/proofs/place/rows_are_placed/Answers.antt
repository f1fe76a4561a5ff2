use Rattle.std.proofs.Common.{rules}
use Rattle.rma_agreement.proofs.place.rows_are_placed.Goals as goal

pub returns-in-Some : goal.returns-in-Some
returns-in-Some c = λ same some. (c.in-Some.first.now, (0, some, search rules), c.are_placed_as.ensures same)
