-- The texts at the places of a list of fields.
use Rattle.std.specs.Prelude.{ℕ, zero, suc, List, [], ◌∷◌, get_or}
use Rattle.std.specs.Borrow.{Bor}

-- no text
abbrev pub nowhere : Bor (List ℕ)
nowhere = record { ref_ptr = (0, 0); now = [] }

-- so many texts from a place on
abbrev pub from_place : List (Bor (List ℕ)) → Bor (List ℕ) → ℕ → ℕ → List (List ℕ)
from_place items other place zero = []
from_place items other place (suc n) = (get_or items place other).now ∷ from_place items other (suc place) n

-- the first texts
abbrev pub first_texts : List (Bor (List ℕ)) → ℕ → List (List ℕ)
first_texts items n = from_place items nowhere 0 n

-- the text at a place
abbrev pub text_at : List (Bor (List ℕ)) → ℕ → List ℕ
text_at items place = (get_or items place nowhere).now
