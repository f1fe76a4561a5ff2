-- Cuts of arrays, from the fastest on.
use Rattle.std.proofs.Common.{◌≡◌, ℕ, zero, suc, ◌+◌, ◌-◌, ◌*◌, ◌<◌, ◌≤◌, ℤ, pos, negsuc, ◌-ℤ◌, ◌*ℤ◌, ◌≤ℤ◌, true, List, [], ◌∷◌, map, reverse, length, get_or, drop, refl, sym, ap, ◌∙◌, arith}
use Rattle.std.specs.Prelude.{int_le}
use Rattle.rma_typemap.proofs.Words.{list_all, ints, drop_more, drop_all, length-map, length-reverse, reverse-append, mul-le-mul_right, Dimension, Order, LastFastest, FirstFastest, Cut, Summary, times, whole, is_between, is_part, cut_of, cuts_of, whole_of_cuts, part_of_cuts, IsNear, IsNearby, part_of, cut_part, displaced, repeated, with_more, size, slowest_first}
use Rattle.std.proofs.lemmas.List.Folds.{list_all-append}
use Rattle.rma_typemap.proofs.NearLemmas.{near_count, IsNearby_wider, IsNearby_displaced, IsNearby_with_more}
use Rattle.rma_base.proofs.NameLemmas.{and_left, and_right}
use Rattle.rma_typemap.proofs.SpaceLemmas.{Decides_int_le}

-- what a dimension with a part that lies in it says
part_lies : (d : Dimension) → is_part d ≡ true → (pos 1 ≤ℤ d.part) × (d.part ≤ℤ d.size) × (pos 0 ≤ℤ d.start)
part_lies d h =
    let p = and_left (is_between (pos 1) d.part d.size) (is_between (pos 0) d.start (d.size -ℤ d.part)) h in
    let q = and_right (is_between (pos 1) d.part d.size) (is_between (pos 0) d.start (d.size -ℤ d.part)) h in
    (between_low (pos 1) d.part d.size p, between_high (pos 1) d.part d.size p, between_low (pos 0) d.start (d.size -ℤ d.part) q)
  where
    between_low : (low x high : ℤ) → is_between low x high ≡ true → low ≤ℤ x
    between_low low x high h = (Decides_int_le low x).0 (and_left (int_le low x) (int_le x high) h)

    between_high : (low x high : ℤ) → is_between low x high ≡ true → x ≤ℤ high
    between_high low x high h = (Decides_int_le x high).0 (and_right (int_le low x) (int_le x high) h)

pub times_is : (x : ℤ) → pos 0 ≤ℤ x → pos (times x) ≡ x
times_is (pos n) h = refl
times_is (negsuc n) h = absurd (omega (arith, ints))

abbrev pub AreCuts : List Cut → Type 0
AreCuts [] = Unit {0}
AreCuts (c ∷ cs) = (1 ≤ c.whole) × (1 ≤ c.part) × AreCuts cs

cut_positive : (d : Dimension) → is_part d ≡ true → (1 ≤ times d.size) × (1 ≤ times d.part)
cut_positive d h =
    let lies = part_lies d h in
    let size = times_is d.size (omega (arith, ints)) in
    let part = times_is d.part (omega (arith, ints)) in
    (omega (arith, ints), omega (arith, ints))

AreCuts_of : (ds : List Dimension) → list_all is_part ds ≡ true → AreCuts (map cut_of ds)
AreCuts_of [] h = tt
AreCuts_of (d ∷ ds) h =
    let one = cut_positive d (and_left (is_part d) _ h) in (one.0, one.1, AreCuts_of ds (and_right (is_part d) _ h))

all_reversed : (ds : List Dimension) → list_all is_part ds ≡ true → list_all is_part (reverse ds) ≡ true
all_reversed [] h = refl
all_reversed (d ∷ ds) h = rw (reverse-append (d ∷ []) ds, list_all-append is_part (reverse ds) (d ∷ []), all_reversed ds (and_right (is_part d) _ h), and_left (is_part d) _ h)

pub AreCuts_cuts_of : (order : Order) (ds : List Dimension) → list_all is_part ds ≡ true → AreCuts (cuts_of order ds)
AreCuts_cuts_of LastFastest ds h = AreCuts_of ds h
AreCuts_cuts_of FirstFastest ds h = AreCuts_of (reverse ds) (all_reversed ds h)

pub length_cuts_of : (order : Order) (ds : List Dimension) → length (cuts_of order ds) ≡ length ds
length_cuts_of LastFastest ds = length-map ds cut_of
length_cuts_of FirstFastest ds = length-map (reverse ds) cut_of ∙ length-reverse ds

-- the cuts from the next faster one on, where `cut` is that one
pub next_rest : (order : Order) (ds : List Dimension) (k : ℕ) (cut : Cut) → k < length ds → cut ≡ get_or (cuts_of order ds) (length ds - 1 - k) cut →
    drop (length ds - (k + 1)) (cuts_of order ds) ≡ cut ∷ drop (length ds - k) (cuts_of order ds)
next_rest order ds k cut test at =
    let long = length_cuts_of order ds in
    let here : length ds - (k + 1) ≡ length ds - 1 - k = omega arith in
    let next : length ds - 1 - k + 1 ≡ length ds - k = omega arith in
    rw (here, drop_more (cuts_of order ds) (length ds - 1 - k) cut (omega arith), next, ← at)

pub rest_none : (cs : List Cut) (n : ℕ) → length cs ≡ n → drop (n - 0) cs ≡ []
rest_none cs n len = drop_all (n - 0) cs (omega arith)

pub rest_all : (cs : List Cut) (n : ℕ) → drop (n - n) cs ≡ cs
rest_all cs n = let none : n - n ≡ 0 = omega arith in ap (λ i. drop i cs) none

times_one : (a b : ℕ) → 1 ≤ a → b ≤ a * b
times_one a b h = let le = mul-le-mul_right b h in omega arith

-- what some of the cuts have together is no more than what all have
pub rest_is_less : (cs : List Cut) (j : ℕ) → AreCuts cs → (whole_of_cuts (drop j cs) ≤ whole_of_cuts cs) × (part_of_cuts (drop j cs) ≤ part_of_cuts cs)
rest_is_less [] zero h = (omega arith, omega arith)
rest_is_less [] (suc j) h = (omega arith, omega arith)
rest_is_less (c ∷ cs) zero h = (omega arith, omega arith)
rest_is_less (c ∷ cs) (suc j) h =
    let rest = rest_is_less cs j h.2 in (omega (arith, rest.0, times_one c.whole (whole_of_cuts cs) h.0), omega (arith, rest.1, times_one c.part (part_of_cuts cs) h.1))

-- ---- near rows

pub row_near : (far W n start size : ℕ) (s : ℤ) (a : Summary) → 1 ≤ n → start + n ≤ size → IsNear W s → IsNearby (far + W) a →
    IsNearby (far + size * W) (displaced (pos start *ℤ s) (repeated n s a))
row_near far W zero start size s a some within near h = absurd (omega arith)
row_near far W (suc p) start size s a some within near h =
    let le : (start + suc p) * W ≤ size * W = mul-le-mul_right W within in
    IsNearby_wider (start * W + (far + W + p * W)) (far + size * W) (displaced (pos start *ℤ s) (with_more p s a)) (omega arith)
    (IsNearby_displaced (far + W + p * W) (start * W) (pos start *ℤ s) (with_more p s a) (near_count start W start s (omega arith) near)
    (IsNearby_with_more (far + W) (p * W) p s a (near_count p W p s (omega arith) near) h))

-- ---- the part by its cuts

parts_as_cuts : (e : ℤ) (a : Summary) (ds : List Dimension) → list_all is_part ds ≡ true → (part_of e ds a ≡ cut_part e (map cut_of ds) a) × (whole ds ≡ pos (whole_of_cuts (map cut_of ds)))
parts_as_cuts e a [] h = (refl, refl)
parts_as_cuts e a (d ∷ ds) h =
    let rest = parts_as_cuts e a ds (and_right (is_part d) _ h) in
    let lies = part_lies d (and_left (is_part d) _ h) in
    let start = times_is d.start lies.2 in
    let size = times_is d.size (omega (arith, ints)) in
    (rw (rest.0, rest.1, start), rw rest.1 (ap (λ s. s *ℤ pos (whole_of_cuts (map cut_of ds))) (sym size)))

-- the same, with the first dimension the fastest or the slowest
pub part_is : (order : Order) (ds : List Dimension) (e : ℤ) (a : Summary) → list_all is_part ds ≡ true →
    (part_of e (slowest_first order ds) a ≡ cut_part e (cuts_of order ds) a) × (whole (slowest_first order ds) ≡ pos (whole_of_cuts (cuts_of order ds)))
part_is LastFastest ds e a h = parts_as_cuts e a ds h
part_is FirstFastest ds e a h = parts_as_cuts e a (reverse ds) (all_reversed ds h)
