use Rattle.std.proofs.Common.{take}
use Rattle.std.specs.Prelude.{All}
use Rattle.rma_agreement.specs.inside.Place.{RowIsPlaced}
use Rattle.rma_agreement.proofs.place.are_placed_as.Given as goal

-- the calls of the ranks so far have the places
abbrev pub invariant-loop-i : goal.invariant-loop-i
invariant-loop-i l = All (RowIsPlaced l.others l.first) (take l.i l.rows)
