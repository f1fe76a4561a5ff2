-- The last word on something.
use Rattle.std.specs.Prelude.{List, [], ◌∷◌, Option, None}
use Rattle.std.specs.Option.{option_or}

-- what the last of some things says, of those that say something
abbrev pub latest : {E A : Type 0} → (E → Option A) → List E → Option A
latest says [] = None
latest says (first ∷ rest) = option_or (latest says rest) (says first)
