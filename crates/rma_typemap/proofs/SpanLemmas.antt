-- Spans of intervals one after another, moved, and at equal distances.
use Rattle.std.proofs.Common.{◌≡◌, ℕ, suc, ℤ, pos, negsuc, ◌+ℤ◌, ◌*ℤ◌, List, [], ◌∷◌, ◌++◌, map, Option, Some, None, refl, sym, arith}
use Rattle.rma_typemap.proofs.Words.{int_min, int_max, ints, clamps, Span, span, joined_span, moved_span, stretched_span, span_of}
use Rattle.rma_typemap.proofs.IntegerLemmas.{one_more}

pub joined_span_assoc : (a b c : Option Span) → joined_span a (joined_span b c) ≡ joined_span (joined_span a b) c
joined_span_assoc None b c = refl
joined_span_assoc (Some a) None c = refl
joined_span_assoc (Some a) (Some b) None = refl
joined_span_assoc (Some a) (Some b) (Some c) = grind (arith, ints, clamps)

pub span_of_append : (xs ys : List (ℤ × ℤ)) → span_of (xs ++ ys) ≡ joined_span (span_of xs) (span_of ys)
span_of_append [] ys = refl
span_of_append (x ∷ xs) ys = rw (span_of_append xs ys) (joined_span_assoc (Some (span x.0 x.1)) (span_of xs) (span_of ys))

pub moved_span_joined : (by : ℤ) (a b : Option Span) → moved_span by (joined_span a b) ≡ joined_span (moved_span by a) (moved_span by b)
moved_span_joined by None b = refl
moved_span_joined by (Some a) None = refl
moved_span_joined by (Some a) (Some b) = grind (arith, ints, clamps)

-- an interval, moved
abbrev pub moved_interval : ℤ → ℤ × ℤ → ℤ × ℤ
moved_interval by x = (by +ℤ x.0, by +ℤ x.1)

pub span_of_moved : (by : ℤ) (xs : List (ℤ × ℤ)) → span_of (map (moved_interval by) xs) ≡ moved_span by (span_of xs)
span_of_moved by [] = refl
span_of_moved by (x ∷ xs) = rw (span_of_moved by xs) (sym (moved_span_joined by (Some (span x.0 x.1)) (span_of xs)))

ends_more : (n : ℕ) (from stride low high : ℤ) →
    (int_min (from +ℤ low) ((from +ℤ stride) +ℤ (low +ℤ int_min (pos 0) (pos n *ℤ stride))) ≡ from +ℤ (low +ℤ int_min (pos 0) (pos (suc n) *ℤ stride))) ×
    (int_max (from +ℤ high) ((from +ℤ stride) +ℤ (high +ℤ int_max (pos 0) (pos n *ℤ stride))) ≡ from +ℤ (high +ℤ int_max (pos 0) (pos (suc n) *ℤ stride)))
ends_more n from (pos s) low high = let e = one_more n (pos s) in (omega (arith, ints, clamps), omega (arith, ints, clamps))
ends_more n from (negsuc s) low high = let e = one_more n (negsuc s) in (omega (arith, ints, clamps), omega (arith, ints, clamps))

-- one more copy before n + 1 copies
pub stretched_span_more : (n : ℕ) (from stride : ℤ) (a : Option Span) →
    joined_span (moved_span from a) (moved_span (from +ℤ stride) (stretched_span (pos n *ℤ stride) a)) ≡ moved_span from (stretched_span (pos (suc n) *ℤ stride) a)
stretched_span_more n from stride None = refl
stretched_span_more n from stride (Some a) = let both = ends_more n from stride a.low a.high in cc

ends_one : (from stride low high : ℤ) → (from +ℤ low ≡ from +ℤ (low +ℤ int_min (pos 0) (pos 0 *ℤ stride))) × (from +ℤ high ≡ from +ℤ (high +ℤ int_max (pos 0) (pos 0 *ℤ stride)))
ends_one from stride low high = (omega (arith, ints, clamps), omega (arith, ints, clamps))

-- one copy alone
pub stretched_span_one : (from stride : ℤ) (a : Option Span) → joined_span (moved_span from a) None ≡ moved_span from (stretched_span (pos 0 *ℤ stride) a)
stretched_span_one from stride None = refl
stretched_span_one from stride (Some a) = let both = ends_one from stride a.low a.high in cc
