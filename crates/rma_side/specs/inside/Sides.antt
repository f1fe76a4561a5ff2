-- How the sides that were asked for are kept: in a map, by epoch and target.
use Rattle.std.specs.Prelude.{List, map}
use Rattle.rma_side.specs.declared.side.Side.{Side}
use Rattle.rma_side.specs.declared.sides.SideKey.{SideKey}
use Rattle.rma_side.specs.Sides.{Asked, asked}

-- an entry of the map
abbrev pub asked_by : SideKey × Side → Asked
asked_by entry = asked entry.0.epoch entry.0.target entry.1

-- those of a map
abbrev pub asked_in : List (SideKey × Side) → List Asked
asked_in entries = map asked_by entries
