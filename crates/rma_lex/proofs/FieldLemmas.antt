-- The first field of a text, and the fields after it.
use Rattle.std.proofs.Common.{◌≡◌, ℕ, zero, suc, ◌+◌, ◌-◌, ◌<◌, ◌≤◌, true, false, not, List, [], ◌∷◌, length, take, drop, get_or, sym, ap, ◌∙◌, ◌⊎◌, inl, inr, ⊎_elim, arith}
use Rattle.std.proofs.lemmas.Bool.{cases_lt}
use Rattle.std.proofs.lemmas.List.{get_or_past, drop_more, drop_all}
use Rattle.rma_lex.specs.inside.Blank.{blank_at}
use Rattle.rma_lex.specs.inside.Edge.{IsNextEdge}
use Rattle.rma_lex.specs.Field.{is_blank, begins_field, onto_first_field, fields_from, fields}

module _ (line : List ℕ) where
  begins_at : (place : ℕ) → begins_field (drop place line) ≡ not (is_blank (get_or line place 32))
  begins_at place = ⊎_elim (λ (within : place < length line). ap begins_field (drop_more line place 32 within))
      (λ (past : length line ≤ place). rw (drop_all place line past, get_or_past line place 32 past)) (cases_lt place (length line))

  -- n blanks are passed over
  passed : (n place to : ℕ) → place + n ≡ to → to ≤ length line → ((at : ℕ) → place ≤ at → at < to → is_blank (get_or line at 32) ≡ true)
      → fields_from place (drop place line) ≡ fields_from to (drop to line)
  passed zero place to is within blanks = ap (λ at. fields_from at (drop at line)) (omega arith)
  passed (suc n) place to is within blanks =
      rw (drop_more line place 32 (omega arith), blanks place (omega arith) (omega arith)) (passed n (place + 1) to (omega arith) within (λ at low. blanks at (omega arith)))

  -- n other bytes and one more are a field, where a blank stands after them or the line ends
  taken : (n place to : ℕ) → place + suc n ≡ to → to ≤ length line → ((at : ℕ) → place ≤ at → at < to → is_blank (get_or line at 32) ≡ false) → is_blank (get_or line to 32) ≡ true
      → fields_from place (drop place line) ≡ record { start = place; text = take (suc n) (drop place line) } ∷ fields_from to (drop to line)
  taken zero place to is within field next =
      let after : is_blank (get_or line (place + 1) 32) ≡ true = ap (λ at. is_blank (get_or line at 32)) (omega arith) ∙ next in
      rw (drop_more line place 32 (omega arith), field place (omega arith) (omega arith), begins_at (place + 1), after)
      (ap (λ at. record { start = place; text = get_or line place 32 ∷ [] } ∷ fields_from at (drop at line)) (omega arith))
  taken (suc n) place to is within field next =
      rw (drop_more line place 32 (omega arith), field place (omega arith) (omega arith), begins_at (place + 1), field (place + 1) (omega arith) (omega arith))
      (ap (onto_first_field place (get_or line place 32)) (taken n (place + 1) to (omega arith) within (λ at low. field at (omega arith)) next))

-- from one place of a line up to the next edge all bytes are as the first one, and the next one is not
module _ (line : List ℕ) (from to : ℕ) (next : IsNextEdge line from to) where
  same_after : (d : ℕ) → from + d < to → blank_at line (from + d) ≡ blank_at line from
  same_after zero below = ap (blank_at line) (omega arith)
  same_after (suc d) below = grind (arith, next.none (from + suc d), same_after d (omega arith))

  same : (at : ℕ) → from ≤ at → at < to → blank_at line at ≡ blank_at line from
  same at low high = ap (blank_at line) (omega arith) ∙ same_after (at - from) (omega arith)

  -- a run of blanks is passed over
  pub blanks_passed : blank_at line from ≡ true
      → (to < length line → blank_at line to ≡ false) × (fields_from from (drop from line) ≡ fields_from to (drop to line))
  blanks_passed blank = (
    λ more. grind (arith, next.edge more, same (to - 1)),
    passed line (to - from) from to (omega (arith, next.low)) next.high (λ at low high. same at low high ∙ blank),
  )

  -- a run of other bytes is a field
  pub field_taken : from < length line → blank_at line from ≡ false
      → (blank_at line to ≡ true) × (fields_from from (drop from line) ≡ record { start = from; text = take (to - from) (drop from line) } ∷ fields_from to (drop to line))
  field_taken within field =
      let after : blank_at line to ≡ true = ⊎_elim (λ (more : to < length line). grind (arith, next.edge more, same (to - 1)))
      (λ (ended : length line ≤ to). ap is_blank (get_or_past line to 32 ended)) (cases_lt to (length line)) in
      let some : from < to = grind (arith, next.low, after, field) in
      let count : suc (to - from - 1) ≡ to - from = omega arith in (
        after,
        taken line (to - from - 1) from to (omega arith) next.high (λ at low high. same at low high ∙ field) after
            ∙ ap (λ n. record { start = from; text = take n (drop from line) } ∷ fields_from to (drop to line)) count,
      )

-- the first field is taken, and the blanks after it are passed over
pub fields_from_next : (line : List ℕ) (start end place : ℕ) → IsNextEdge line start end → IsNextEdge line end place → start < length line → blank_at line start ≡ false
    → (place < length line → blank_at line place ≡ false)
    × (fields_from start (drop start line) ≡ record { start = start; text = take (end - start) (drop start line) } ∷ fields_from place (drop place line))
fields_from_next line start end place field blanks within begins =
    let first = field_taken line start end field within begins in
    let rest = blanks_passed line end place blanks first.0 in
    (rest.0, first.1 ∙ ap (λ later. record { start = start; text = take (end - start) (drop start line) } ∷ later) rest.1)

-- the line begins with blanks, which are passed over, or with a field
pub fields_begun : (line : List ℕ) (place : ℕ) → ((blank_at line 0 ≡ true) × IsNextEdge line 0 place) ⊎ ((blank_at line 0 ≡ false) × (place ≡ 0))
    → (place < length line → blank_at line place ≡ false) × (fields_from place (drop place line) ≡ fields line)
fields_begun line place (inl blank) = let rest = blanks_passed line 0 place blank.1 blank.0 in (rest.0, sym rest.1)
fields_begun line place (inr field) = (λ _. ap (blank_at line) field.1 ∙ field.0, ap (λ n. fields_from n (drop n line)) field.1)

-- no more fields than bytes
pub length_fields_from : (place : ℕ) (bs : List ℕ) → length (fields_from place bs) ≤ length bs
length_fields_from place [] = omega arith
length_fields_from place (b ∷ bs) = let later = length_fields_from (place + 1) bs in grind arith
