-- The bounds, the blocks and the space of a typemap, by its summary.
use Rattle.std.proofs.Common.{◌≡◌, ℕ, ◌*◌, ◌≤◌, ◌<◌, ℤ, List, [], ◌∷◌, map, length, sum_by, Option, Some, None, refl, sym, ap, ◌∙◌, arith}
use Rattle.rma_typemap.proofs.Words.{sum_by-cons, Basic, SignedChar, basic_size, Span, Typemap, elements, lower_marks, upper_marks, start_of, end_of, alignment_of, gaps_after, block_count, lesser, greater, least, greatest, lower_bound, upper_bound, extent, size, entry_count, is_solid, fills, span, joined_span, span_of, blocks_of, intervals, points, summary, low_of, high_of, lower_end, upper_end, extent_of, blocks_in, blocks_fill, summary_is_solid, made_of_summary, made_of, BlocksAreFew, IsAligned, IsSound}
use Rattle.std.proofs.lemmas.List.{map-id}
use Rattle.rma_typemap.proofs.BlocksLemmas.{gap_small}

-- ---- bounds

bounds_joined : (x y : ℤ) (a : Option Span) →
    (Some (lesser x (low_of a)) ≡ low_of (joined_span (Some (span x y)) a)) × (Some (greater y (high_of a)) ≡ high_of (joined_span (Some (span x y)) a))
bounds_joined x y None = (refl, refl)
bounds_joined x y (Some a) = (refl, refl)

-- the least start and the greatest end of intervals, by their span
span_bounds : {X : Type 0} (low high : X → ℤ) (xs : List X) →
    (least (map low xs) ≡ low_of (span_of (map (λ x. (low x, high x)) xs))) × (greatest (map high xs) ≡ high_of (span_of (map (λ x. (low x, high x)) xs)))
span_bounds low high [] = (refl, refl)
span_bounds low high (x ∷ xs) =
    let rest = span_bounds low high xs in
    let all = bounds_joined (low x) (high x) (span_of (map (λ y. (low y, high y)) xs)) in
    (ap (λ o. Some (lesser (low x) o)) rest.0 ∙ all.0, ap (λ o. Some (greater (high x) o)) rest.1 ∙ all.1)

mark_bounds : (xs : List ℤ) → (least xs ≡ low_of (span_of (points xs))) × (greatest xs ≡ high_of (span_of (points xs)))
mark_bounds xs = let b = span_bounds (λ (x : ℤ). x) (λ (x : ℤ). x) xs in (ap least (sym (map-id xs)) ∙ b.0, ap greatest (sym (map-id xs)) ∙ b.1)

pub lower_bound_is : (m : Typemap) → lower_bound m ≡ lower_end (summary m)
unfolding lower_bound summary
lower_bound_is m = cc ((mark_bounds (lower_marks m)).0, (span_bounds start_of end_of (elements m)).0)

pub upper_bound_is : (m : Typemap) → upper_bound m ≡ upper_end (summary m)
unfolding upper_bound summary
upper_bound_is m = cc ((mark_bounds (upper_marks m)).1, (span_bounds start_of end_of (elements m)).1, lower_bound_is m)

pub extent_is : (m : Typemap) → extent m ≡ extent_of (summary m)
unfolding extent
extent_is m = cc (upper_bound_is m, lower_bound_is m)

pub size_is : (m : Typemap) → size m ≡ (summary m).size
unfolding size summary
size_is m = refl

pub entry_count_is : (m : Typemap) → entry_count m ≡ (summary m).entries
unfolding entry_count summary
entry_count_is m = refl

block_count_blocks : (es : List (Basic × ℤ)) → block_count es ≡ blocks_in (blocks_of es)
block_count_blocks [] = refl
block_count_blocks (e ∷ es) = refl

pub block_count_is : (m : Typemap) → block_count (elements m) ≡ blocks_in (summary m).blocks
unfolding summary
block_count_is m = block_count_blocks (elements m)

fills_blocks : (low high : ℤ) (es : List (Basic × ℤ)) → fills low high es ≡ blocks_fill low high (blocks_of es)
fills_blocks low high [] = refl
fills_blocks low high (e ∷ es) = refl

fills_is : (low high : ℤ) (m : Typemap) → fills low high (elements m) ≡ blocks_fill low high (summary m).blocks
unfolding summary
fills_is low high m = fills_blocks low high (elements m)

pub is_solid_is : (m : Typemap) → is_solid m ≡ summary_is_solid (summary m)
unfolding is_solid
is_solid_is m = cc (block_count_is m, fills_is (lower_bound m) (upper_bound m) m, lower_bound_is m, upper_bound_is m, extent_is m, size_is m)

-- ---- the counts of a summary

basic_size_positive : (b : Basic) → 0 < basic_size b
basic_size_positive SignedChar = omega arith
basic_size_positive _ = omega arith

basic_size_small : (b : Basic) → basic_size b ≤ 8
basic_size_small SignedChar = omega arith
basic_size_small _ = omega arith

sum_by_small : (es : List (Basic × ℤ)) → sum_by (λ (e : Basic × ℤ). basic_size e.0) es ≤ 8 * length es
sum_by_small [] = omega arith
sum_by_small (e ∷ es) = omega (arith, sum_by-cons (λ (f : Basic × ℤ). basic_size f.0) e es, basic_size_small e.0, sum_by_small es)

alignment_of_small : (es : List (Basic × ℤ)) → alignment_of es ≤ 8
alignment_of_small [] = omega arith
alignment_of_small (e ∷ es) = omega (arith, basic_size_small e.0, alignment_of_small es)

gaps_after_small : (at : ℤ) (es : List (Basic × ℤ)) → gaps_after at es ≤ length es
gaps_after_small at [] = omega arith
gaps_after_small at (e ∷ es) = omega (arith, gap_small at (start_of e), gaps_after_small (end_of e) es)

BlocksAreFew_of : (es : List (Basic × ℤ)) → BlocksAreFew (length es) (blocks_of es)
BlocksAreFew_of [] = tt
BlocksAreFew_of (e ∷ es) = omega (arith, gaps_after_small (end_of e) es)

IsAligned_positive : (n : ℕ) (a : Option Span) → 0 < n → IsAligned n a
IsAligned_positive n None h = tt
IsAligned_positive n (Some a) h = h

IsAligned_of : (es : List (Basic × ℤ)) → IsAligned (alignment_of es) (span_of (intervals es))
IsAligned_of [] = tt
IsAligned_of (e ∷ es) = IsAligned_positive (alignment_of (e ∷ es)) (span_of (intervals (e ∷ es))) (omega (arith, basic_size_positive e.0))

pub IsSound_summary : (m : Typemap) → IsSound (summary m)
unfolding summary
IsSound_summary m = record {
  small = sum_by_small (elements m);
  low = alignment_of_small (elements m);
  short = BlocksAreFew_of (elements m);
  aligned = IsAligned_of (elements m);
}

-- ---- what is known of a typemap

pub made_of_is : (parts : Typemap) → made_of_summary (summary parts) ≡ made_of parts
made_of_is parts = cc (size_is parts, lower_bound_is parts, upper_bound_is parts, extent_is parts, entry_count_is parts, block_count_is parts, is_solid_is parts)
