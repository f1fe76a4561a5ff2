-- The text of a line: the carriage return at its end, and bytes that are all those of a text.
use Rattle.std.proofs.Common.{◌≡◌, ℕ, Bool, true, false, cond, ltb, List, [], ◌∷◌, ◌++◌, length, Ok, Err, refl, sym, ap, ◌∙◌, ⊎_elim, eqb}
use Rattle.std.specs.List.{list_all}
use Rattle.std.proofs.lemmas.Bool.{cases_Bool, false≢true, eqb-true}
use Rattle.rma_base.specs.Limits.{line_limit}
use Rattle.rma_base.specs.declared.form_reason.FormReason.TheVariants.{LineTooLong}
use Rattle.rma_base.proofs.NameLemmas.{and_left, and_right}
use Rattle.rma_lex.specs.Text.{is_text_byte, without_return, text_of}

pub without_return_return : (front : List ℕ) (byte : ℕ) → eqb byte 13 ≡ true → without_return (front ++ byte ∷ []) ≡ front
without_return_return [] byte h = rw h
without_return_return (x ∷ []) byte h = rw h
without_return_return (x ∷ y ∷ front) byte h = ap (λ them. x ∷ them) (without_return_return (y ∷ front) byte h)

pub without_return_other : (front : List ℕ) (byte : ℕ) → eqb byte 13 ≡ false → without_return (front ++ byte ∷ []) ≡ front ++ byte ∷ []
without_return_other [] byte h = rw h
without_return_other (x ∷ []) byte h = rw h
without_return_other (x ∷ y ∷ front) byte h = ap (λ them. x ∷ them) (without_return_other (y ∷ front) byte h)

return_is_no_text : (byte : ℕ) → is_text_byte byte ≡ true → eqb byte 13 ≡ false
return_is_no_text byte good = ⊎_elim
    (λ (return : eqb byte 13 ≡ true). absurd (false≢true (sym (ap is_text_byte (eqb-true byte 13 return)) ∙ good)))
    (λ (other : eqb byte 13 ≡ false). other) (cases_Bool (eqb byte 13))

without_return_text : (line : List ℕ) → list_all is_text_byte line ≡ true → without_return line ≡ line
without_return_text [] good = refl
without_return_text (byte ∷ []) good = rw (return_is_no_text byte (and_left (is_text_byte byte) true good)) refl
without_return_text (byte ∷ next ∷ line) good = ap (λ them. byte ∷ them) (without_return_text (next ∷ line) (and_right (is_text_byte byte) (list_all is_text_byte (next ∷ line)) good))

-- the text of a line of such bytes is the line
pub text_of_clean : (ended : Bool) (line : List ℕ) → list_all is_text_byte line ≡ true
    → text_of ended line ≡ cond (ltb line_limit (length line)) (Err LineTooLong) (Ok line)
text_of_clean true line good = rw (without_return_text line good, good)
text_of_clean false line good = rw good
