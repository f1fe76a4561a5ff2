-- Bytes that need no second look.
use Rattle.std.specs.Prelude.{◌≡◌, ℕ, ◌<◌, ◌≤◌, ◌==◌, ◌||◌, Bool, true, List, slice_index}
use Rattle.rma_lex.specs.Text.{is_text_byte}

-- a byte of a text, or a line feed
abbrev pub is_clean_byte : ℕ → Bool
is_clean_byte byte = is_text_byte byte || byte == 10

-- all bytes from one index up to another are such bytes
abbrev pub IsClean : List ℕ → ℕ → ℕ → Type 0
IsClean text from to = (place : ℕ) → from ≤ place → place < to → is_clean_byte (slice_index text place) ≡ true
