-- The text of a line, and the reasons for which a line has none (the log format of this product).
use Rattle.std.specs.Prelude.{ℕ, Bool, ◌||◌, ◌&&◌, ◌==◌, nat_le, nat_lt, List, [], ◌∷◌, length, Result, Ok, Err, if◌then◌else◌}
use Rattle.std.specs.List.{list_all}
use Rattle.rma_base.specs.Limits.{line_limit}
use Rattle.rma_base.specs.declared.form_reason.FormReason.{FormReason}
use Rattle.rma_base.specs.declared.form_reason.FormReason.TheVariants.{LineTooLong, BadByte}

-- printable ASCII, or a tab
abbrev pub is_text_byte : ℕ → Bool
is_text_byte byte = byte == 9 || (nat_le 32 byte && nat_le byte 126)

-- the line without a carriage return at its end
abbrev pub without_return : List ℕ → List ℕ
without_return [] = []
without_return (byte ∷ []) = if byte == 13 then [] else byte ∷ []
without_return (byte ∷ next ∷ bytes) = byte ∷ without_return (next ∷ bytes)

-- The text of a line, or why it has none: it is too long, or else it has a byte that no text has. A carriage return
-- directly before the line feed is no part of the text; where no line feed ends the line, it is.
abbrev pub text_of : Bool → List ℕ → Result (List ℕ) FormReason
text_of ended line =
    let text = (if ended then without_return line else line) in
    if nat_lt line_limit (length line) then Err LineTooLong
    else (if list_all is_text_byte text then Ok text else Err BadByte)
