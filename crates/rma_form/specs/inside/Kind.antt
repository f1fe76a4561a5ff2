-- The word of its kind behind the verb of a line.
use Rattle.std.specs.Prelude.{◌≡◌, ℕ, List, Option, Some, None}

-- where a form has a word of its kind, this is it
abbrev pub IsKind : Option (List ℕ) → Option (List ℕ) → Type 0
IsKind None kind = Unit {0}
IsKind (Some word) kind = kind ≡ Some word
