-- Bytes that need no second look, found a block of 64 at a time.
use Rattle.std.proofs.Common.{◌≡◌, ◌≢◌, ◌↔◌, ℕ, ◌+◌, ◌-◌, ◌^◌, ◌%◌, ◌<◌, ◌≤◌, ◌&&◌, ◌||◌, Bool, true, false, cond, eqb, leb, List, [], ◌∷◌, length, take, drop, map, get_or, refl, sym, subst, ap, ap₂, ◌∙◌, arith, bit_and, bit_or}
use Rattle.std.specs.Int.{bit_at}
use Rattle.std.specs.List.{list_all}
use Rattle.std.specs.Prelude.{replicate}
use Rattle.std.specs.Simd.Lanes.{mask_l, chunk, zip2, top}
use Rattle.std.proofs.lemmas.Bool.{ne_eqb, leb-true}
use Rattle.std.proofs.lemmas.List.{length-drop, length-map, length-take, get_or-drop, get_or-take, take_rest}
use Rattle.std.proofs.lemmas.List.Elements.{All-from_get_or}
use Rattle.std.proofs.lemmas.List.Sums.{list_all-from_AllPass}
use Rattle.std.proofs.lemmas.List.Folds.{list_all_at}
use Rattle.std.proofs.lemmas.Nat.Bits.{bit_at_ones, same_from_bits_below}
use Rattle.std.proofs.lemmas.Simd.{length-chunk, mask_l-mod, zip2_of_maps, zip2_splat, zip2_splat_left}
use Rattle.rma_lex.specs.inside.Clean.{is_clean_byte, IsClean}
use Rattle.rma_lex.specs.inside.LineFeed.{IsLineAt}
use Rattle.rma_lex.specs.inside.Found.{Knows}
use Rattle.rma_lex.specs.Text.{is_text_byte}
use Rattle.rma_lex.specs.declared.line_feed.LineFeeds.{LineFeeds}
use Rattle.rma_lex.specs.inside.Mask.{Marks}
use Rattle.rma_lex.proofs.MarkLemmas.{Marks_lanes}

-- what the four comparisons make of a byte: all bits, if one of a text or a line feed, and else none
abbrev lane : ℕ → ℕ
lane x = bit_or (bit_or (cond (eqb x 9) 255 0) (bit_and (cond (leb 32 x) 255 0) (cond (leb x 126) 255 0))) (cond (eqb x 10) 255 0)

top_lane : (tab space tilde feed : Bool) → top 7 (bit_or (bit_or (cond tab 255 0) (bit_and (cond space 255 0) (cond tilde 255 0))) (cond feed 255 0)) ≡ ((tab || (space && tilde)) || feed)
top_lane true true true true = refl
top_lane true true true false = refl
top_lane true true false true = refl
top_lane true true false false = refl
top_lane true false true true = refl
top_lane true false true false = refl
top_lane true false false true = refl
top_lane true false false false = refl
top_lane false true true true = refl
top_lane false true true false = refl
top_lane false true false true = refl
top_lane false true false false = refl
top_lane false false true true = refl
top_lane false false true false = refl
top_lane false false false true = refl
top_lane false false false false = refl

map_lanes : (v : List ℕ) → map (top 7) (map lane v) ≡ map is_clean_byte v
map_lanes [] = refl
map_lanes (x ∷ xs) = ap₂ (λ a b. a ∷ b) (top_lane (eqb x 9) (leb 32 x) (leb x 126) (eqb x 10)) (map_lanes xs)

-- what `to_bitmask` gives of the lanes of a load that are clean
abbrev clean_mask : List ℕ → ℕ → ℕ
clean_mask text from =
    let lanes = chunk from 64 text in
    mask_l (map (top 7)
    (zip2 bit_or
    (zip2 bit_or (zip2 (λ a b. cond (eqb a b) 255 0) lanes (replicate 64 9))
    (zip2 bit_and (zip2 (λ a b. cond (leb a b) 255 0) (replicate 64 32) lanes) (zip2 (λ a b. cond (leb a b) 255 0) lanes (replicate 64 126))))
    (zip2 (λ a b. cond (eqb a b) 255 0) lanes (replicate 64 10)))) % 2 ^ 64

pub Marks_clean : (text : List ℕ) (from : ℕ) → from + 64 ≤ length text → Marks (λ at. is_clean_byte (get_or text at 0)) from (clean_mask text from) from (from + 64)
Marks_clean text from within =
    let v = chunk from 64 text in
    let long = length-chunk from 64 text within in
    let equal : (y : ℕ) → zip2 {C = ℕ} (λ a b. cond (eqb a b) 255 0) v (replicate 64 y) ≡ map (λ x. cond (eqb x y) 255 0) v = λ y. zip2_splat (λ a b. cond (eqb a b) 255 0) v 64 y long in
    let printable = zip2_of_maps bit_and (λ x. cond (leb 32 x) 255 0) (λ x. cond (leb x 126) 255 0) v (zip2_splat_left (λ a b. cond (leb a b) 255 0) 32 64 v long) (zip2_splat (λ a b. cond (leb a b) 255 0) v 64 126 long) in
    let text_bytes = zip2_of_maps bit_or (λ x. cond (eqb x 9) 255 0) (λ x. bit_and (cond (leb 32 x) 255 0) (cond (leb x 126) 255 0)) v (equal 9) printable in
    let lanes = zip2_of_maps bit_or (λ x. bit_or (cond (eqb x 9) 255 0) (bit_and (cond (leb 32 x) 255 0) (cond (leb x 126) 255 0))) (λ x. cond (eqb x 10) 255 0) v text_bytes (equal 10) in
    let mask : clean_mask text from ≡ mask_l (map is_clean_byte v) =
    ap (λ l. mask_l (map (top 7) l) % 2 ^ 64) lanes ∙ ap (λ l. mask_l l % 2 ^ 64) (map_lanes v) ∙ mask_l-mod (map is_clean_byte v) 64 (omega (arith, length-map v is_clean_byte, long)) in
    subst (λ m. Marks (λ at. is_clean_byte (get_or text at 0)) from m from (from + 64)) (sym mask) (Marks_lanes is_clean_byte 0 text from 64 within)

-- all bits are set exactly where all bytes are clean
pub IsClean_full : (text : List ℕ) (from mask : ℕ) → Marks (λ at. is_clean_byte (get_or text at 0)) from mask from (from + 64) → mask < 2 ^ 64 → (mask ≡ 2 ^ 64 - 1) ↔ IsClean text from (from + 64)
IsClean_full text from mask marks small = (
  λ full place low high.
      let there : from + (place - from) ≡ place = omega arith in
      ap (λ i. is_clean_byte (get_or text i 0)) (sym there)
      ∙ ((marks (place - from)).0 (ap (λ m. bit_at m (place - from)) full ∙ bit_at_ones 64 (place - from) (omega arith))).2,
  λ clean. same_from_bits_below 64 mask (2 ^ 64 - 1) small (omega arith) (λ k below.
      (marks k).1 (omega arith, omega arith, clean (from + k) (omega arith) (omega arith)) ∙ sym (bit_at_ones 64 k below)),
)

list_all_get_or : (p : ℕ → Bool) (xs : List ℕ) (i : ℕ) → list_all p xs ≡ true → i < length xs → p (get_or xs i 0) ≡ true
list_all_get_or p xs i all within = grind (arith, list_all_at p xs i 0 within)

-- the rest of a text, byte by byte
pub IsClean_rest : (text : List ℕ) (from : ℕ) → list_all is_clean_byte (take (length text - from) (drop from text)) ≡ true → IsClean text from (length text)
IsClean_rest text from all place low high =
    let rest = ap (list_all is_clean_byte) (sym (take_rest text from)) ∙ all in
    let there : from + (place - from) ≡ place = omega arith in
    ap (λ i. is_clean_byte (get_or text i 0)) (sym there) ∙ sym (ap is_clean_byte (get_or-drop from text (place - from) 0))
    ∙ list_all_get_or is_clean_byte (drop from text) (place - from) rest (omega (arith, length-drop from text))

text_byte : (byte : ℕ) → is_clean_byte byte ≡ true → byte ≢ 10 → is_text_byte byte ≡ true
text_byte byte clean other = let none = ne_eqb byte 10 other in grind arith

-- a line after the doubtful place has the bytes of a text alone
pub clean_line : (feeds : LineFeeds) (items : List ℕ) (start end : ℕ) (closed : Bool) → Knows feeds items → IsLineAt items closed start end feeds.start
    → leb feeds.doubtful start ≡ true → list_all is_text_byte (take (end - start) (drop start items)) ≡ true
clean_line feeds items start end closed knows is after =
    let line = take (end - start) (drop start items) in
    let searched : end ≤ feeds.seen = grind (arith, is.ended, knows.started) in
    list_all-from_AllPass is_text_byte line (All-from_get_or (λ x. is_text_byte x ≡ true) line 0 (λ i within.
    let below : i < end - start = omega (arith, length-take (end - start) (drop start items)) in
    ap is_text_byte (get_or-take (end - start) (drop start items) i 0 below ∙ get_or-drop start items i 0)
    ∙ text_byte (get_or items (start + i) 0) (knows.clean (start + i) (omega (arith, leb-true feeds.doubtful start after)) (omega arith)) (is.no_line_feed (start + i) (omega arith) (omega arith))))
