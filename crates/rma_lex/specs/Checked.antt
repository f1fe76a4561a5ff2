-- What each line of a text is: its text, or why it is bad.
use Rattle.std.specs.Prelude.{ℕ, Bool, true, not, List, [], ◌∷◌, Result}
use Rattle.rma_base.specs.declared.form_reason.FormReason.{FormReason}
use Rattle.rma_lex.specs.Line.{lines, has_open_end}
use Rattle.rma_lex.specs.Text.{text_of}

-- what these lines are, where a line feed ends each but the last, and the last too unless its end is open
abbrev pub checked_with : Bool → List (List ℕ) → List (Result (List ℕ) FormReason)
checked_with open_end [] = []
checked_with open_end (line ∷ []) = text_of (not open_end) line ∷ []
checked_with open_end (line ∷ next ∷ rest) = text_of true line ∷ checked_with open_end (next ∷ rest)

-- what each line of a text is
abbrev pub checked_lines : List ℕ → List (Result (List ℕ) FormReason)
checked_lines text = checked_with (has_open_end text) (lines text)
