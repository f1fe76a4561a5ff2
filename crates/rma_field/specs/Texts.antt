-- Texts that are referred to.
use Rattle.std.specs.Prelude.{ℕ, List, map}
use Rattle.std.specs.Borrow.{Bor}

-- the texts that these refer to
abbrev pub texts_at : List (Bor (List ℕ)) → List (List ℕ)
texts_at them = map (λ text. text.now) them
