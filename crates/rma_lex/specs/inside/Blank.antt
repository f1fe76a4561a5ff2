-- The blanks of a line.
use Rattle.std.specs.Prelude.{ℕ, Bool, List, slice_index_or}
use Rattle.rma_lex.specs.Field.{is_blank}

-- whether the byte is a blank or the line has ended
abbrev pub blank_at : List ℕ → ℕ → Bool
blank_at line place = is_blank (slice_index_or line place 32)
