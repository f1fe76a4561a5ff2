-- The fields of a line.
use Rattle.std.specs.Prelude.{ℕ, ◌+◌, Bool, false, not, ◌||◌, List, [], ◌∷◌, map, ◌==◌, if◌then◌else◌}

-- a space or a tab
abbrev pub is_blank : ℕ → Bool
is_blank byte = byte == 32 || byte == 9

-- any other byte
abbrev pub is_field : ℕ → Bool
is_field byte = not (is_blank byte)

-- a field of a line, and the position of its first byte
pub record Field : Type 0 where
  pub start : ℕ
  pub text : List ℕ

-- the first of these fields with one byte more before it, at that position
abbrev pub onto_first_field : ℕ → ℕ → List Field → List Field
onto_first_field place byte [] = record { start = place; text = byte ∷ [] } ∷ []
onto_first_field place byte (field ∷ rest) = record { start = place; text = byte ∷ field.text } ∷ rest

-- whether the text goes on with a field
abbrev pub begins_field : List ℕ → Bool
begins_field [] = false
begins_field (byte ∷ bytes) = is_field byte

-- The fields of a text that begins at that position of a line: its longest runs of bytes that are no blanks.
abbrev pub fields_from : ℕ → List ℕ → List Field
fields_from place [] = []
fields_from place (byte ∷ bytes) =
    let later = fields_from (place + 1) bytes in
    if is_blank byte then later
    else (if begins_field bytes then onto_first_field place byte later else record { start = place; text = byte ∷ [] } ∷ later)

-- the fields of a line
abbrev pub fields : List ℕ → List Field
fields line = fields_from 0 line

-- the texts of fields
abbrev pub texts : List Field → List (List ℕ)
texts them = map (λ field. field.text) them
