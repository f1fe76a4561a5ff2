-- What is known of a value whose owner may not say it.
use Rattle.std.specs.Prelude.{Option, Some, None, ⊤}

-- what is known after a call was known before it, and P relates the two
abbrev pub StillKnown : {X : Type 0} → (X → X → Type 0) → Option X → Option X → Type 0
StillKnown P before None = ⊤
StillKnown P None (Some after) = ⊥
StillKnown P (Some before) (Some after) = P before after
