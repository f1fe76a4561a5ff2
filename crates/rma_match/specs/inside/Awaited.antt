-- What is had of the points that a return waits for.
use Rattle.std.specs.Prelude.{List, [], ◌∷◌, ◌++◌, Option, option_map, fold}
use Rattle.std.specs.Option.{option_and_then}
use Rattle.rma_base.specs.declared.point.Point.{Point}

-- the points with one more, where all of them are there
abbrev pub with_one : Option (List Point) → Option Point → Option (List Point)
with_one points point = option_and_then (λ before. option_map (λ p. before ++ p ∷ []) point) points

-- the points with more of them
abbrev pub with_more : Option (List Point) → List (Option Point) → Option (List Point)
with_more points more = fold with_one points more
