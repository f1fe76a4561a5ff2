-- The space of a typemap, by its summary.
use Rattle.std.proofs.Common.{◌≡◌, ℤ, pos, neg_ℤ, ◌+ℤ◌, ◌≤ℤ◌, Bool, true, false, ◌&&◌, List, [], ◌∷◌, Option, Some, None, refl, sym, ap, ◌∙◌, arith, Decides}
use Rattle.std.specs.Prelude.{int_le}
use Rattle.rma_typemap.proofs.Words.{list_all, int_min, int_max, ints, clamps, same_from_decides, Decides-and, address_limit, Basic, basic_size, Span, Typemap, element, lower_mark, upper_mark, elements, lower_marks, upper_marks, end_of, end_after, is_in_space, entry_is_in_space, is_all_in_space, span, joined_span, span_of, blocks_of, intervals, points, summary, span_is_in_space, summary_is_in_space, IsNear, SpanIsNear, BlocksAreNear, IsNearby}
use Rattle.std.proofs.Math.Bool.{and_comm, and_assoc, and-true}
use Rattle.rma_base.proofs.NameLemmas.{and_left, and_right}
use Rattle.rma_typemap.proofs.NearLemmas.{SpanIsNear_joined}

pub Decides_int_le : (x y : ℤ) → Decides (int_le x y) (x ≤ℤ y)
Decides_int_le x y = (λ h. omega (arith, ints), λ h. grind (arith, ints))

min_above : (k x y : ℤ) → int_le k (int_min x y) ≡ (int_le k x && int_le k y)
min_above k x y =
    let both = Decides-and (int_le k x) (int_le k y) (Decides_int_le k x) (Decides_int_le k y) in
    same_from_decides (int_le k (int_min x y)) (int_le k x && int_le k y) (Decides_int_le k (int_min x y))
    (λ h. let p = both.0 h in omega (arith, ints, clamps), λ h. both.1 (omega (arith, ints, clamps), omega (arith, ints, clamps)))

max_below : (k x y : ℤ) → int_le (int_max x y) k ≡ (int_le x k && int_le y k)
max_below k x y =
    let both = Decides-and (int_le x k) (int_le y k) (Decides_int_le x k) (Decides_int_le y k) in
    same_from_decides (int_le (int_max x y) k) (int_le x k && int_le y k) (Decides_int_le (int_max x y) k)
    (λ h. let p = both.0 h in omega (arith, ints, clamps), λ h. both.1 (omega (arith, ints, clamps), omega (arith, ints, clamps)))

-- (a && b) && (c && d), with the inner two changed over
and_swap : (a b c d : Bool) → ((a && b) && (c && d)) ≡ ((a && c) && (b && d))
and_swap true b c d = sym (and_assoc b c d) ∙ ap (λ x. x && d) (and_comm b c) ∙ and_assoc c b d
and_swap false b c d = refl

span_is_in_space_joined : (x y : ℤ) (a : Option Span) →
    span_is_in_space (joined_span (Some (span x y)) a) ≡ ((int_le (neg_ℤ (pos address_limit)) x && int_le y (pos address_limit)) && span_is_in_space a)
span_is_in_space_joined x y None = sym (and-true (int_le (neg_ℤ (pos address_limit)) x && int_le y (pos address_limit)))
span_is_in_space_joined x y (Some a) =
    rw (min_above, max_below)
    (and_swap (int_le (neg_ℤ (pos address_limit)) x) (int_le (neg_ℤ (pos address_limit)) a.low) (int_le y (pos address_limit)) (int_le a.high (pos address_limit)))

first_of_three : (p b l u : Bool) → (p && ((b && l) && u)) ≡ (((p && b) && l) && u)
first_of_three true b l u = refl
first_of_three false b l u = refl

second_of_three : (p b l u : Bool) → (p && ((b && l) && u)) ≡ ((b && (p && l)) && u)
second_of_three p true l u = first_of_three p true l u ∙ ap (λ t. (t && l) && u) (and_comm p true)
second_of_three p false l u = and_comm p false

third_of_three : (p b u : Bool) → (p && (b && u)) ≡ (b && (p && u))
third_of_three p true u = refl
third_of_three p false u = and_comm p false

list_all_spans : (m : Typemap) → list_all entry_is_in_space m ≡
    ((span_is_in_space (span_of (intervals (elements m))) && span_is_in_space (span_of (points (lower_marks m)))) && span_is_in_space (span_of (points (upper_marks m))))
list_all_spans [] = refl
list_all_spans (element b at ∷ m) = rw (list_all_spans m, span_is_in_space_joined) (first_of_three (entry_is_in_space (element b at)) _ _ _)
list_all_spans (lower_mark at ∷ m) = rw (list_all_spans m, span_is_in_space_joined) (second_of_three (is_in_space at) _ _ _)
list_all_spans (upper_mark at ∷ m) = rw (list_all_spans m, span_is_in_space_joined) (third_of_three (is_in_space at) _ _)

pub is_all_in_space_is : (m : Typemap) → is_all_in_space m ≡ summary_is_in_space (summary m)
unfolding is_all_in_space summary
is_all_in_space_is m = list_all_spans m

-- ---- what is in the space is near

-- intervals start and end near
abbrev AreNear : List (ℤ × ℤ) → Type 0
AreNear [] = Unit {0}
AreNear (x ∷ xs) = (IsNear address_limit x.0 × IsNear address_limit x.1) × AreNear xs

mark_near : (x : ℤ) → is_in_space x ≡ true → IsNear address_limit x
mark_near x h =
    let low = and_left (int_le (neg_ℤ (pos address_limit)) x) _ h in let high = and_right (int_le (neg_ℤ (pos address_limit)) x) _ h in
    record { low = omega (arith, ints); high = omega (arith, ints) }

element_near : (b : Basic) (at : ℤ) → entry_is_in_space (element b at) ≡ true → IsNear address_limit at × IsNear address_limit (at +ℤ pos (basic_size b))
element_near b at h =
    let low = and_left (int_le (neg_ℤ (pos address_limit)) at) _ h in let high = and_right (int_le (neg_ℤ (pos address_limit)) at) _ h in
    (record { low = omega (arith, ints); high = omega (arith, ints) }, record { low = omega (arith, ints); high = omega (arith, ints) })

all_near : (m : Typemap) → list_all entry_is_in_space m ≡ true → AreNear (intervals (elements m)) × AreNear (points (lower_marks m)) × AreNear (points (upper_marks m))
all_near [] h = (tt, tt, tt)
all_near (element b at ∷ m) h =
    let rest = all_near m (and_right (entry_is_in_space (element b at)) _ h) in ((element_near b at (and_left (entry_is_in_space (element b at)) _ h), rest.0), rest.1, rest.2)
all_near (lower_mark at ∷ m) h =
    let rest = all_near m (and_right (is_in_space at) _ h) in let one = mark_near at (and_left (is_in_space at) _ h) in (rest.0, ((one, one), rest.1), rest.2)
all_near (upper_mark at ∷ m) h =
    let rest = all_near m (and_right (is_in_space at) _ h) in let one = mark_near at (and_left (is_in_space at) _ h) in (rest.0, rest.1, ((one, one), rest.2))

span_near : (xs : List (ℤ × ℤ)) → AreNear xs → SpanIsNear address_limit (span_of xs)
span_near [] h = tt
span_near (x ∷ xs) h = SpanIsNear_joined address_limit (Some (span x.0 x.1)) (span_of xs) h.0 (span_near xs h.1)

end_after_near : (at : ℤ) (es : List (Basic × ℤ)) → IsNear address_limit at → AreNear (intervals es) → IsNear address_limit (end_after at es)
end_after_near at [] k h = k
end_after_near at (e ∷ es) k h = end_after_near (end_of e) es h.0.1 h.1

blocks_near : (es : List (Basic × ℤ)) → AreNear (intervals es) → BlocksAreNear address_limit (blocks_of es)
blocks_near [] h = tt
blocks_near (e ∷ es) h = (h.0.0, end_after_near (end_of e) es h.0.1 h.1)

pub IsNearby_in_space : (m : Typemap) → is_all_in_space m ≡ true → IsNearby address_limit (summary m)
unfolding is_all_in_space summary
IsNearby_in_space m h =
    let near = all_near m h in
    record { bytes = span_near _ near.0; lower = span_near _ near.1; upper = span_near _ near.2; blocks = blocks_near (elements m) near.0 }
