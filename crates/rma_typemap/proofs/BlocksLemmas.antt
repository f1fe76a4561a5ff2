-- Blocks of elements one after another, moved, and at equal distances.
use Rattle.std.proofs.Common.{◌≡◌, ◌≢◌, ℕ, suc, ◌+◌, ◌*◌, ℤ, pos, ◌+ℤ◌, ◌*ℤ◌, Bool, true, false, cond, List, [], ◌∷◌, ◌++◌, map, Option, Some, None, refl, ap, ◌∙◌, arith, Decides, ◌≤◌}
use Rattle.rma_typemap.proofs.Words.{int_eq, ints, Decides-int_eq, same_from_decides, Decides-like, Basic, Blocks, start_of, end_of, gap, gaps_after, end_after, joined_blocks, moved_blocks, repeated_blocks, blocks_of}
use Rattle.rma_typemap.proofs.IntegerLemmas.{one_more}

-- an element, moved
abbrev pub moved_element : ℤ → Basic × ℤ → Basic × ℤ
moved_element by e = (e.0, by +ℤ e.1)

cancel : (by a b : ℤ) → by +ℤ a ≡ by +ℤ b → a ≡ b
cancel by a b h = omega (arith, ints)

int_eq_moved : (by a b : ℤ) → int_eq (by +ℤ a) (by +ℤ b) ≡ int_eq a b
int_eq_moved by a b =
    same_from_decides (int_eq (by +ℤ a) (by +ℤ b)) (int_eq a b) (Decides-int_eq (by +ℤ a) (by +ℤ b))
    (Decides-like (int_eq a b) (λ p. ap (λ x. by +ℤ x) p) (cancel by a b) (Decides-int_eq a b))

pub gap_moved : (by a b : ℤ) → gap (by +ℤ a) (by +ℤ b) ≡ gap a b
unfolding gap
gap_moved by a b = ap (λ t. cond t 0 1) (int_eq_moved by b a)

pub gap_same : (a b : ℤ) → b ≡ a → gap a b ≡ 0
unfolding gap
gap_same a b h = ap (λ t. cond t 0 1) ((Decides-int_eq b a).1 h)

pub gaps_after_append : (at : ℤ) (xs ys : List (Basic × ℤ)) → gaps_after at (xs ++ ys) ≡ gaps_after at xs + gaps_after (end_after at xs) ys
gaps_after_append at [] ys = omega arith
gaps_after_append at (e ∷ xs) ys = omega (arith, gaps_after_append (end_of e) xs ys)

pub end_after_append : (at : ℤ) (xs ys : List (Basic × ℤ)) → end_after at (xs ++ ys) ≡ end_after (end_after at xs) ys
end_after_append at [] ys = refl
end_after_append at (e ∷ xs) ys = end_after_append (end_of e) xs ys

pub blocks_of_append : (xs ys : List (Basic × ℤ)) → blocks_of (xs ++ ys) ≡ joined_blocks (blocks_of xs) (blocks_of ys)
blocks_of_append [] ys = refl
blocks_of_append (e ∷ xs) [] = grind (arith, gaps_after_append (end_of e) xs [], end_after_append (end_of e) xs [])
blocks_of_append (e ∷ xs) (f ∷ ys) = grind (arith, gaps_after_append (end_of e) xs (f ∷ ys), end_after_append (end_of e) xs (f ∷ ys))

pub end_of_moved : (by : ℤ) (e : Basic × ℤ) → end_of (moved_element by e) ≡ by +ℤ end_of e
end_of_moved by e = omega (arith, ints)

gaps_after_moved : (by at : ℤ) (es : List (Basic × ℤ)) → gaps_after (by +ℤ at) (map (moved_element by) es) ≡ gaps_after at es
gaps_after_moved by at [] = refl
gaps_after_moved by at (e ∷ es) = cc (gap_moved by at (start_of e), end_of_moved by e, gaps_after_moved by (end_of e) es)

end_after_moved : (by at : ℤ) (es : List (Basic × ℤ)) → end_after (by +ℤ at) (map (moved_element by) es) ≡ by +ℤ end_after at es
end_after_moved by at [] = refl
end_after_moved by at (e ∷ es) = cc (end_of_moved by e, end_after_moved by (end_of e) es)

pub blocks_of_moved : (by : ℤ) (es : List (Basic × ℤ)) → blocks_of (map (moved_element by) es) ≡ moved_blocks by (blocks_of es)
blocks_of_moved by [] = refl
blocks_of_moved by (e ∷ es) = cc (end_of_moved by e, gaps_after_moved by (end_of e) es, end_after_moved by (end_of e) es)

gaps_more : (n g b : ℕ) → g + b + (g + n * (g + b)) ≡ g + suc n * (g + b)
gaps_more n g b = omega arith

last_more : (n : ℕ) (from stride last : ℤ) → (from +ℤ stride) +ℤ (last +ℤ pos n *ℤ stride) ≡ from +ℤ (last +ℤ pos (suc n) *ℤ stride)
last_more n from stride last = let e = one_more n stride in omega (arith, ints)

gap_more : (from stride last first : ℤ) → gap (from +ℤ last) ((from +ℤ stride) +ℤ first) ≡ gap last (first +ℤ stride)
gap_more from stride last first =
    let e : (from +ℤ stride) +ℤ first ≡ from +ℤ (first +ℤ stride) = omega (arith, ints) in
    ap (λ x. gap (from +ℤ last) x) e ∙ gap_moved from last (first +ℤ stride)

pub repeated_blocks_more : (n : ℕ) (from stride : ℤ) (a : Option Blocks) →
    joined_blocks (moved_blocks from a) (moved_blocks (from +ℤ stride) (repeated_blocks n stride a)) ≡ moved_blocks from (repeated_blocks (suc n) stride a)
repeated_blocks_more n from stride None = refl
repeated_blocks_more n from stride (Some a) =
    cc (gap_more from stride a.last a.first, gaps_more n a.gaps (gap a.last (a.first +ℤ stride)), last_more n from stride a.last)

last_one : (from stride last : ℤ) → from +ℤ last ≡ from +ℤ (last +ℤ pos 0 *ℤ stride)
last_one from stride last = omega (arith, ints)

gaps_one : (g b : ℕ) → g ≡ g + 0 * (g + b)
gaps_one g b = omega arith

pub repeated_blocks_one : (from stride : ℤ) (a : Option Blocks) → joined_blocks (moved_blocks from a) None ≡ moved_blocks from (repeated_blocks 0 stride a)
repeated_blocks_one from stride None = refl
repeated_blocks_one from stride (Some a) = cc (gaps_one a.gaps (gap a.last (a.first +ℤ stride)), last_one from stride a.last)

pub gap_other : (a b : ℤ) → b ≢ a → gap a b ≡ 1
unfolding gap
gap_other a b h = ap (λ t. cond t 0 1) (not_equal (int_eq b a) (Decides-int_eq b a))
  where
    not_equal : (t : Bool) → Decides t (b ≡ a) → t ≡ false
    not_equal true d = absurd (h (d.0 refl))
    not_equal false d = refl

pub gap_small : (a b : ℤ) → gap a b ≤ 1
unfolding gap
gap_small a b = either (int_eq b a)
  where
    either : (t : Bool) → cond t 0 1 ≤ 1
    either true = omega arith
    either false = omega arith
