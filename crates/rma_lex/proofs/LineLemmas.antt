-- The lines of a text.
use Rattle.std.proofs.Common.{◌≡◌, ℕ, zero, suc, ◌+◌, ◌-◌, ◌<◌, ◌≤◌, Bool, true, false, cond, eqb, List, [], ◌∷◌, ◌++◌, length, get_or, refl, sym, ap, ◌∙◌, arith}
use Rattle.std.specs.Prelude.{Contains, All, not}
use Rattle.std.proofs.lemmas.Bool.{eqb-true, eqb-false, ne_eqb}
use Rattle.std.proofs.lemmas.List.Elements.{All-nil, All-cons, All-head, All-tail}
use Rattle.std.proofs.lemmas.List.Sums.{sum_by-cons, sum_by-append}
use Rattle.rma_lex.specs.Line.{lines, onto_first, joined, has_open_end, line_feeds}

pub feeds_cons : (byte : ℕ) (bytes : List ℕ) → line_feeds (byte ∷ bytes) ≡ cond (eqb byte 10) 1 0 + line_feeds bytes
feeds_cons byte bytes = sum_by-cons (λ x. cond (eqb x 10) 1 0) byte bytes

pub feeds_append : (text more : List ℕ) → line_feeds (text ++ more) ≡ line_feeds text + line_feeds more
feeds_append text more = sum_by-append (λ x. cond (eqb x 10) 1 0) text more

-- no byte is a line feed, by recursion
abbrev pub Plain : List ℕ → Type 0
Plain [] = Unit {0}
Plain (byte ∷ bytes) = (eqb byte 10 ≡ false) × Plain bytes

pub lines_at : (line more : List ℕ) → Plain line → lines (line ++ 10 ∷ more) ≡ line ∷ lines more
lines_at [] more plain = refl
lines_at (byte ∷ line) more plain = rw plain.0 (ap (onto_first byte) (lines_at line more plain.1))

pub lines_last : (byte : ℕ) (line : List ℕ) → Plain (byte ∷ line) → lines (byte ∷ line) ≡ (byte ∷ line) ∷ []
lines_last byte [] plain = rw plain.0 refl
lines_last byte (next ∷ line) plain = rw plain.0 (ap (onto_first byte) (lines_last next line plain.1))

pub lines_some : (byte : ℕ) (bytes : List ℕ) → 0 < length (lines (byte ∷ bytes))
lines_some byte bytes = grind arith

-- each line feed ends a line, and there is one more where the text does not end in one
length_more : (byte n : ℕ) (on : Bool) (them : List (List ℕ)) → 0 < length them → length them ≡ n + cond on 1 0
    → length (cond (eqb byte 10) ([] ∷ them) (onto_first byte them)) ≡ cond (eqb byte 10) 1 0 + n + cond on 1 0
length_more byte n on them some rest = grind arith

pub length_lines : (text : List ℕ) → length (lines text) ≡ line_feeds text + cond (has_open_end text) 1 0
length_lines [] = refl
length_lines (byte ∷ []) = grind (arith, feeds_cons byte [])
length_lines (byte ∷ next ∷ bytes) =
    length_more byte (line_feeds (next ∷ bytes)) (has_open_end (next ∷ bytes)) (lines (next ∷ bytes)) (lines_some next bytes) (length_lines (next ∷ bytes))
    ∙ ap (λ n. n + cond (has_open_end (next ∷ bytes)) 1 0) (sym (feeds_cons byte (next ∷ bytes)))

-- no more lines than bytes
pub length_lines_le : (text : List ℕ) → length (lines text) ≤ length text
length_lines_le [] = omega arith
length_lines_le (byte ∷ bytes) = grind (arith, length_lines_le bytes)

pub Plain_append : (xs ys : List ℕ) → Plain xs → Plain ys → Plain (xs ++ ys)
Plain_append [] ys here there = there
Plain_append (x ∷ xs) ys here there = (here.0, Plain_append xs ys here.1 there)

pub Plain_left : (xs ys : List ℕ) → Plain (xs ++ ys) → Plain xs
Plain_left [] ys both = tt
Plain_left (x ∷ xs) ys both = (both.0, Plain_left xs ys both.1)

-- the two ways to say that a line has no line feed
pub Plain_from_Contains : (line : List ℕ) → ¬ Contains line 10 → Plain line
Plain_from_Contains [] none = tt
Plain_from_Contains (byte ∷ line) none =
    (ne_eqb byte 10 (λ e. none (0, omega arith, e)), Plain_from_Contains line (λ c. none (suc c.0, omega (arith, c.1), c.2)))

pub Contains_from_Plain : (line : List ℕ) → Plain line → ¬ Contains line 10
Contains_from_Plain [] plain (k, l, e) = omega (arith, l)
Contains_from_Plain (byte ∷ line) plain (zero, l, e) = eqb-false byte 10 plain.0 e
Contains_from_Plain (byte ∷ line) plain (suc k, l, e) = Contains_from_Plain line plain.1 (k, omega (arith, l), e)

-- the lines, each with its line feed, make the text
joined_more : (byte : ℕ) (on : Bool) (text : List ℕ) (them : List (List ℕ)) → 0 < length them → joined them ≡ cond on (text ++ 10 ∷ []) text
    → joined (cond (eqb byte 10) ([] ∷ them) (onto_first byte them)) ≡ cond on (byte ∷ text ++ 10 ∷ []) (byte ∷ text)
joined_more byte on text them some rest = grind (arith, eqb-true byte 10)

pub joined_lines : (text : List ℕ) → joined (lines text) ≡ cond (has_open_end text) (text ++ 10 ∷ []) text
joined_lines [] = refl
joined_lines (byte ∷ []) = grind (arith, eqb-true byte 10)
joined_lines (byte ∷ next ∷ bytes) = joined_more byte (has_open_end (next ∷ bytes)) (next ∷ bytes) (lines (next ∷ bytes)) (lines_some next bytes) (joined_lines (next ∷ bytes))

abbrev pub IsPlain : List ℕ → Type 0
IsPlain line = ¬ Contains line 10

-- no line has a line feed
pub All_lines : (text : List ℕ) → All IsPlain (lines text)
All_lines [] = All-nil IsPlain
All_lines (byte ∷ bytes) = step (eqb byte 10) refl (lines bytes) (All_lines bytes)
  where
    front : eqb byte 10 ≡ false → (line : List ℕ) → IsPlain line → IsPlain (byte ∷ line)
    front e line plain = Contains_from_Plain (byte ∷ line) (e, Plain_from_Contains line plain)

    step : (b : Bool) → eqb byte 10 ≡ b → (them : List (List ℕ)) → All IsPlain them → All IsPlain (cond b ([] ∷ them) (onto_first byte them))
    step true e them all = All-cons IsPlain [] them (Contains_from_Plain [] tt) all
    step false e [] all = All-cons IsPlain (byte ∷ []) [] (front e [] (Contains_from_Plain [] tt)) (All-nil IsPlain)
    step false e (line ∷ them) all = All-cons IsPlain (byte ∷ line) them (front e line (All-head IsPlain line them all)) (All-tail IsPlain line them all)

-- lines without line line_feeds are the lines of the text that they make
pub lines_joined : (them : List (List ℕ)) → All IsPlain them → lines (joined them) ≡ them
lines_joined [] all = refl
lines_joined (line ∷ them) all =
    lines_at line (joined them) (Plain_from_Contains line (All-head IsPlain line them all)) ∙ ap (λ rest. line ∷ rest) (lines_joined them (All-tail IsPlain line them all))

-- the last byte tells
pub has_open_end_last : (text : List ℕ) (d : ℕ) → 0 < length text → has_open_end text ≡ not (eqb (get_or text (length text - 1) d) 10)
has_open_end_last [] d some = absurd (omega arith)
has_open_end_last (byte ∷ []) d some = refl
has_open_end_last (byte ∷ next ∷ bytes) d some =
    let e : suc (suc (length bytes)) - 1 ≡ suc (suc (length bytes) - 1) = omega arith in
    has_open_end_last (next ∷ bytes) d (omega arith) ∙ sym (ap (λ k. not (eqb (get_or (byte ∷ next ∷ bytes) k d) 10)) e)
