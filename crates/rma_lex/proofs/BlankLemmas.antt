-- The blanks of a line in a mask.
use Rattle.std.proofs.Common.{◌≡◌, ℕ, ◌+◌, ◌-◌, ◌*◌, ◌%◌, ◌^◌, ◌≤◌, ◌||◌, Bool, true, false, cond, eqb, List, [], ◌∷◌, length, map, refl, sym, ap, ap₂, subst, ◌∙◌, arith, bit_or}
use Rattle.std.specs.Prelude.{replicate}
use Rattle.std.specs.Simd.Lanes.{mask_l, chunk, zip2, top}
use Rattle.std.proofs.lemmas.List.{length-map, get_or_past}
use Rattle.std.proofs.lemmas.Simd.{length-chunk, mask_l-mod, zip2_splat, zip2_of_maps}
use Rattle.rma_lex.specs.inside.Blank.{blank_at}
use Rattle.rma_lex.specs.inside.Mask.{Marks}
use Rattle.rma_lex.specs.Field.{is_blank}
use Rattle.rma_lex.proofs.MarkLemmas.{Marks_lanes, Marks_shl, Marks_or, ones_from}

top_or : (a b : Bool) → top 7 (bit_or (cond a 255 0) (cond b 255 0)) ≡ (a || b)
top_or true true = refl
top_or true false = refl
top_or false true = refl
top_or false false = refl

map_tops : (v : List ℕ) → map (top 7) (map (λ x. bit_or (cond (eqb x 32) 255 0) (cond (eqb x 9) 255 0)) v) ≡ map is_blank v
map_tops [] = refl
map_tops (x ∷ xs) = ap₂ (λ a b. a ∷ b) (top_or (eqb x 32) (eqb x 9)) (map_tops xs)

-- what `to_bitmask` gives of the lanes of a load that are a space or a tab
abbrev pub blank_mask : List ℕ → ℕ → ℕ → ℕ
blank_mask line from n =
    let lanes = chunk from n line in
    mask_l (map (top 7) (zip2 bit_or (zip2 (λ a b. cond (eqb a b) 255 0) lanes (replicate n 32)) (zip2 (λ a b. cond (eqb a b) 255 0) lanes (replicate n 9)))) % 2 ^ 64

pub Marks_blanks : (line : List ℕ) (from n : ℕ) → from + n ≤ length line → n ≤ 64 → Marks (blank_at line) from (blank_mask line from n) from (from + n)
Marks_blanks line from n within short =
    let v = chunk from n line in
    let long = length-chunk from n line within in
    let lanes : blank_mask line from n ≡ mask_l (map is_blank v) =
    ap (λ l. mask_l (map (top 7) l) % 2 ^ 64)
    (zip2_of_maps bit_or (λ x. cond (eqb x 32) 255 0) (λ x. cond (eqb x 9) 255 0) v (zip2_splat (λ a b. cond (eqb a b) 255 0) v n 32 long) (zip2_splat (λ a b. cond (eqb a b) 255 0) v n 9 long))
    ∙ ap (λ l. mask_l l % 2 ^ 64) (map_tops v) ∙ mask_l-mod (map is_blank v) 64 (omega (arith, length-map v is_blank)) in
    subst (λ m. Marks (blank_at line) from m from (from + n)) (sym lanes) (Marks_lanes is_blank 32 line from n within)

pub Marks_blanks_moved : (line : List ℕ) (from n : ℕ) → from + n ≤ length line → from + n ≤ 64 → Marks (blank_at line) 0 (blank_mask line from n * 2 ^ from % 2 ^ 64) from (from + n)
Marks_blanks_moved line from n within short = Marks_shl (blank_at line) (blank_mask line from n) from (from + n) (Marks_blanks line from n within (omega arith)) short

-- a line that two spans of one length cover, of which one begins at its front and the other ends at its end
pub Marks_two : (line : List ℕ) (n one other : ℕ) → n ≤ length line → length line ≤ n + n → Marks (blank_at line) 0 one 0 (0 + n)
    → Marks (blank_at line) 0 other (length line - n) (length line - n + n) → Marks (blank_at line) 0 (bit_or one other) 0 (length line)
Marks_two line n one other low high ones others =
    subst (λ to. Marks (blank_at line) 0 (bit_or one other) 0 to) (omega arith)
    (Marks_or (blank_at line) 0 one other 0 (0 + n) (length line - n) (length line - n + n) ones others (omega arith) (omega arith) (omega arith))

-- the places after the line are marked too
pub Marks_after : (line : List ℕ) (mask : ℕ) → length line ≤ 64 → Marks (blank_at line) 0 mask 0 (length line)
    → Marks (blank_at line) 0 (bit_or mask ((2 ^ 64 - 1) * 2 ^ length line % 2 ^ 64)) 0 64
Marks_after line mask short marks =
    Marks_or (blank_at line) 0 mask _ 0 (length line) (length line) 64 marks (λ k. grind (arith, ones_from (length line) k short, get_or_past line k 32)) (omega arith) (omega arith) short
