-- The lines of a text.
use Rattle.std.specs.Prelude.{ℕ, Bool, false, not, List, [], ◌∷◌, ◌++◌, ◌==◌, count_by, if◌then◌else◌}

-- the lines, where the first has one byte more before it
abbrev pub onto_first : ℕ → List (List ℕ) → List (List ℕ)
onto_first byte [] = (byte ∷ []) ∷ []
onto_first byte (line ∷ rest) = (byte ∷ line) ∷ rest

-- The lines of a text. A line ends before its line feed; a rest that is not empty is the last line.
abbrev pub lines : List ℕ → List (List ℕ)
lines [] = []
lines (byte ∷ bytes) = if byte == 10 then [] ∷ lines bytes else onto_first byte (lines bytes)

-- how many line feeds a text has: so many of its lines are whole while it goes on
abbrev pub line_feeds : List ℕ → ℕ
line_feeds text = count_by (λ byte. byte == 10) text

-- the lines one after another, each with its line feed
abbrev pub joined : List (List ℕ) → List ℕ
joined [] = []
joined (line ∷ rest) = line ++ 10 ∷ joined rest

-- whether the text is not empty, and its last byte no line feed
abbrev pub has_open_end : List ℕ → Bool
has_open_end [] = false
has_open_end (byte ∷ []) = not (byte == 10)
has_open_end (byte ∷ next ∷ bytes) = has_open_end (next ∷ bytes)
