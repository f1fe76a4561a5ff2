-- What each line of a text is.
use Rattle.std.proofs.Common.{◌+◌, eqb-true, ◌≡◌, ◌≢◌, ℕ, zero, suc, ◌<◌, ◌⊎◌, Bool, true, false, not, List, [], ◌∷◌, ◌++◌, length, take, drop, cond, eqb, append_assoc, ◌≤◌, Err, refl, sym, ap, ◌∙◌, arith, inl, inr, ⊎_elim}
use Rattle.std.proofs.lemmas.Bool.{cases_Bool, lt-ltb}
use Rattle.std.proofs.lemmas.List.{length-append}
use Rattle.rma_base.specs.Limits.{line_limit}
use Rattle.rma_base.specs.declared.form_reason.FormReason.TheVariants.{LineTooLong}
use Rattle.rma_lex.specs.Line.{lines, has_open_end, line_feeds}
use Rattle.rma_lex.specs.Text.{text_of}
use Rattle.rma_lex.specs.Checked.{checked_with, checked_lines}
use Rattle.rma_lex.proofs.LineLemmas.{feeds_append, feeds_cons, Plain, Plain_append, lines_at, lines_last, lines_some}

checked_with_cons : (open_end : Bool) (line : List ℕ) (them : List (List ℕ)) → 0 < length them → checked_with open_end (line ∷ them) ≡ text_of true line ∷ checked_with open_end them
checked_with_cons open_end line [] some = absurd (omega arith)
checked_with_cons open_end line (next ∷ them) some = refl

has_open_end_at : (line more : List ℕ) → has_open_end (line ++ 10 ∷ more) ≡ has_open_end more
has_open_end_at [] [] = refl
has_open_end_at [] (byte ∷ more) = refl
has_open_end_at (byte ∷ []) more = has_open_end_at [] more
has_open_end_at (byte ∷ next ∷ line) more = has_open_end_at (next ∷ line) more

-- a line that a line feed ends, and what is after it
pub checked_lines_at : (line more : List ℕ) → Plain line → checked_lines (line ++ 10 ∷ more) ≡ text_of true line ∷ checked_lines more
checked_lines_at line more plain =
    ap (λ open_end. checked_with open_end (lines (line ++ 10 ∷ more))) (has_open_end_at line more)
    ∙ ap (checked_with (has_open_end more)) (lines_at line more plain) ∙ after more
  where
    after : (more : List ℕ) → checked_with (has_open_end more) (line ∷ lines more) ≡ text_of true line ∷ checked_lines more
    after [] = refl
    after (byte ∷ bytes) = checked_with_cons (has_open_end (byte ∷ bytes)) line (lines (byte ∷ bytes)) (lines_some byte bytes)

has_open_end_plain : (byte : ℕ) (line : List ℕ) → Plain (byte ∷ line) → has_open_end (byte ∷ line) ≡ true
has_open_end_plain byte [] plain = ap not plain.0
has_open_end_plain byte (next ∷ line) plain = has_open_end_plain next line plain.1

-- a last line that no line feed ends
pub checked_lines_last : (line : List ℕ) → Plain line → line ≢ [] → checked_lines line ≡ text_of false line ∷ []
checked_lines_last [] plain some = absurd (some refl)
checked_lines_last (byte ∷ bytes) plain some =
    ap (λ open_end. checked_with open_end (lines (byte ∷ bytes))) (has_open_end_plain byte bytes plain) ∙ ap (checked_with true) (lines_last byte bytes plain)

length_checked_with : (open_end : Bool) (them : List (List ℕ)) → length (checked_with open_end them) ≡ length them
length_checked_with open_end [] = refl
length_checked_with open_end (line ∷ []) = refl
length_checked_with open_end (line ∷ next ∷ rest) = ap suc (length_checked_with open_end (next ∷ rest))

-- a text is checked line by line
pub length_checked_lines : (text : List ℕ) → length (checked_lines text) ≡ length (lines text)
length_checked_lines text = length_checked_with (has_open_end text) (lines text)

-- a text begins with a line that a line feed ends
record BeginsLine (text : List ℕ) : Type 0 where
  line : List ℕ
  rest : List ℕ
  plain : Plain line
  is : text ≡ line ++ 10 ∷ rest

-- a text has no line feed, or begins with a line that one ends
first_line : (text : List ℕ) → Plain text ⊎ BeginsLine text
first_line [] = inl tt
first_line (byte ∷ bytes) = ⊎_elim
    (λ (feed : eqb byte 10 ≡ true). inr (record { line = []; rest = bytes; plain = tt; is = ap (λ b. b ∷ bytes) (eqb-true byte 10 feed) }))
    (λ (other : eqb byte 10 ≡ false). ⊎_elim (λ (plain : Plain bytes). inl (other, plain))
    (λ (later : BeginsLine bytes). inr (record { line = byte ∷ later.line; rest = later.rest; plain = (other, later.plain); is = ap (λ them. byte ∷ them) later.is }))
    (first_line bytes))
    (cases_Bool (eqb byte 10))

text_of_long : (ended : Bool) (line : List ℕ) → line_limit < length line → text_of ended line ≡ Err LineTooLong
text_of_long true line long = rw (lt-ltb line_limit (length line) long)
text_of_long false line long = rw (lt-ltb line_limit (length line) long)

-- a line that is too long, however it goes on, and what is after it
pub checked_lines_long : (line more : List ℕ) → Plain line → line_limit < length line → checked_lines (line ++ more) ≡ Err LineTooLong ∷ drop 1 (checked_lines more)
checked_lines_long line more plain long = ⊎_elim
    (λ (on : Plain more).
    checked_lines_last (line ++ more) (Plain_append line more plain on) (λ e. omega (arith, ap length e, length-append line more))
    ∙ ap (λ it. it ∷ []) (text_of_long false (line ++ more) (omega (arith, length-append line more))) ∙ ap (λ them. Err LineTooLong ∷ them) (sym (none_after more on)))
    (λ (first : BeginsLine more).
    let whole = line ++ first.line in
    ap (λ m. checked_lines (line ++ m)) first.is ∙ ap checked_lines (sym (append_assoc line first.line (10 ∷ first.rest)))
    ∙ checked_lines_at whole first.rest (Plain_append line first.line plain first.plain)
    ∙ ap (λ it. it ∷ checked_lines first.rest) (text_of_long true whole (omega (arith, length-append line first.line)))
    ∙ sym (ap (λ m. Err LineTooLong ∷ drop 1 (checked_lines m)) first.is ∙ ap (λ them. Err LineTooLong ∷ drop 1 them) (checked_lines_at first.line first.rest first.plain)))
    (first_line more)
  where
    none_after : (more : List ℕ) → Plain more → drop 1 (checked_lines more) ≡ []
    none_after [] on = refl
    none_after (byte ∷ bytes) on = ap (drop 1) (checked_lines_last (byte ∷ bytes) on (λ e. cc))

-- what a line is stays as it is when the text goes on after its line feed
pub checked_lines_more : (n : ℕ) (text more : List ℕ) → n ≤ line_feeds text → take n (checked_lines (text ++ more)) ≡ take n (checked_lines text)
checked_lines_more zero text more within = refl
checked_lines_more (suc n) text more within =
    let first = ⊎_elim (λ (plain : Plain text). absurd {A = BeginsLine text} (omega (arith, feeds_plain text plain))) (λ (it : BeginsLine text). it) (first_line text) in
    let ended = first.line ++ 10 ∷ first.rest in
    let fewer : n ≤ line_feeds first.rest =
    omega (arith, ap line_feeds first.is, feeds_append first.line (10 ∷ first.rest), feeds_cons 10 first.rest, feeds_plain first.line first.plain) in
    ap (λ t. take (suc n) (checked_lines (t ++ more))) first.is
    ∙ ap (λ t. take (suc n) (checked_lines t)) (append_assoc first.line (10 ∷ first.rest) more)
    ∙ ap (take (suc n)) (checked_lines_at first.line (first.rest ++ more) first.plain)
    ∙ ap (λ them. text_of true first.line ∷ them) (checked_lines_more n first.rest more fewer)
    ∙ sym (ap (λ t. take (suc n) (checked_lines t)) first.is ∙ ap (take (suc n)) (checked_lines_at first.line first.rest first.plain))
  where
    feeds_plain : (line : List ℕ) → Plain line → line_feeds line ≡ 0
    feeds_plain [] plain = refl
    feeds_plain (byte ∷ line) plain = let here = feeds_cons byte line ∙ ap (λ b. cond b 1 0 + line_feeds line) plain.0 in omega (arith, here, feeds_plain line plain.1)
