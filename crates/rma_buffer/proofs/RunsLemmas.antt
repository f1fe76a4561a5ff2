-- Runs to which elements are added one after another are in canonical form, and have the bytes of the elements.
use Rattle.std.proofs.Common.{◌≡◌, ◌<◌, ℤ, pos, negsuc, ◌+ℤ◌, Bool, true, false, List, [], ◌∷◌, inl, inr, ⊎_elim, ◌⊎◌, ◌↔◌, if◌then◌else◌, refl, ap, ◌∙◌, arith}
use Rattle.std.specs.Prelude.{◌≤ℤ◌, ◌<ℤ◌, ◌-ℤ◌, int_lt, unsigned_abs}
use Rattle.std.specs.Int.{int_min, int_max}
use Rattle.std.proofs.lemmas.Int.{ints, int_min_is, int_max_is}
use Rattle.rma_bytes.specs.declared.run.Run.{Run}
use Rattle.rma_bytes.specs.Runs.{end_of, IsByteOf, HasByte, IsInBounds, BeginsAfter, IsCanonical}
use Rattle.rma_buffer.specs.Layouts.{joined, with_run}

-- ---- two runs, joined

abs_of : (z : ℤ) → pos 0 ≤ℤ z → pos (unsigned_abs z) ≡ z
abs_of (pos n) h = refl
abs_of (negsuc n) h = absurd (omega (arith, ints))

ends_at_most : (a b : Run) → 0 < a.len → int_min a.start b.start ≤ℤ int_max (end_of a) (end_of b)
ends_at_most a b some = omega (arith, ints, int_min_is a.start b.start, int_max_is (end_of a) (end_of b))

joined_end : (a b : Run) → 0 < a.len → end_of (joined a b) ≡ int_max (end_of a) (end_of b)
joined_end a b some =
    let low = int_min a.start b.start in
    let high = int_max (end_of a) (end_of b) in
    let le : low ≤ℤ high = ends_at_most a b some in
    let len = abs_of (high -ℤ low) (omega (arith, ints)) in
    ap (λ z. low +ℤ z) len ∙ omega (arith, ints)

joined_some : (a b : Run) → 0 < a.len → 0 < (joined a b).len
joined_some a b some =
    let end = joined_end a b some in
    omega (arith, ints, end, int_min_is a.start b.start, int_max_is (end_of a) (end_of b))

joined_bounds : (a b : Run) → 0 < a.len → IsInBounds a → IsInBounds b → IsInBounds (joined a b)
joined_bounds a b some x y =
    let end = joined_end a b some in
    let low = x.0 in
    let high = x.1 in
    let low_of = y.0 in
    let high_of = y.1 in
    (omega (arith, ints, int_min_is a.start b.start), omega (arith, ints, end, int_max_is (end_of a) (end_of b)))

-- two runs that overlap or touch have the bytes of the one that they are joined to
joined_bytes : (a b : Run) (n : ℤ) → 0 < a.len → b.start ≤ℤ end_of a → a.start ≤ℤ end_of b → IsByteOf (joined a b) n ↔ (IsByteOf b n ⊎ IsByteOf a n)
joined_bytes a b n some left right =
    let end = joined_end a b some in
    let low = int_min_is a.start b.start in
    let high = int_max_is (end_of a) (end_of b) in
    (λ h. let from = h.0 in let to = h.1 in grind (arith, ints), λ h. (grind (arith, ints), grind (arith, ints)))

-- ---- one run more

abbrev Adds : List Run → List Run → Run → ℤ → Type 0
Adds new runs it n = HasByte new n ↔ (IsByteOf it n ⊎ HasByte runs n)

abbrev step : Bool → Bool → Run → List Run → Run → List Run
step s t first rest it = if s then it ∷ first ∷ rest else (if t then first ∷ with_run rest it else with_run rest (joined first it))

step_bytes : (s t : Bool) (first : Run) (rest : List Run) (it : Run) (n : ℤ) → int_lt (end_of it) first.start ≡ s → int_lt (end_of first) it.start ≡ t → 0 < first.len → 0 < it.len →
    ((other : Run) → 0 < other.len → Adds (with_run rest other) rest other n) → Adds (step s t first rest it) (first ∷ rest) it n
step_bytes true t first rest it n before after some more later = (λ h. h, λ h. h)
step_bytes false true first rest it n before after some more later =
    let others = later it more in (
      λ h. ⊎_elim (λ p. inr (inl p)) (λ q. ⊎_elim (λ p. inl p) (λ p. inr (inr p)) (others.0 q)) h,
      λ h. ⊎_elim (λ p. inr (others.1 (inl p))) (λ q. ⊎_elim (λ p. inl p) (λ p. inr (others.1 (inr p))) q) h,
    )
step_bytes false false first rest it n before after some more later =
    let both = joined_bytes first it n some (omega (arith, ints)) (omega (arith, ints)) in
    let others = later (joined first it) (joined_some first it some) in (
      λ h. ⊎_elim (λ p. ⊎_elim (λ q. inl q) (λ q. inr (inl q)) (both.0 p)) (λ q. inr (inr q)) (others.0 h),
      λ h. ⊎_elim (λ p. others.1 (inl (both.1 (inl p)))) (λ q. ⊎_elim (λ p. others.1 (inl (both.1 (inr p)))) (λ p. others.1 (inr p)) q) h,
    )

pub with_run_bytes : (runs : List Run) (it : Run) (n : ℤ) → IsCanonical runs → 0 < it.len → Adds (with_run runs it) runs it n
with_run_bytes [] it n good more = (λ h. h, λ h. h)
with_run_bytes (first ∷ rest) it n good more =
    step_bytes (int_lt (end_of it) first.start) (int_lt (end_of first) it.start) first rest it n refl refl good.1 more (λ other some. with_run_bytes rest other n good.3 some)

-- ---- canonical form

begins_later : (d e : ℤ) (runs : List Run) → d ≤ℤ e → BeginsAfter e runs → BeginsAfter d runs
begins_later d e [] le h = tt
begins_later d e (run ∷ runs) le h = omega (arith, ints)

step_after : (s t : Bool) (e : ℤ) (first : Run) (rest : List Run) (it : Run) → e <ℤ first.start → e <ℤ it.start →
    ((other : Run) → e <ℤ other.start → BeginsAfter e (with_run rest other)) → BeginsAfter e (step s t first rest it)
step_after true t e first rest it here there later = there
step_after false true e first rest it here there later = here
step_after false false e first rest it here there later = later (joined first it) (omega (arith, ints, int_min_is first.start it.start))

with_run_after : (e : ℤ) (runs : List Run) (it : Run) → IsCanonical runs → BeginsAfter e runs → e <ℤ it.start → BeginsAfter e (with_run runs it)
with_run_after e [] it good after h = h
with_run_after e (first ∷ rest) it good after h =
    let some = good.1 in
    step_after (int_lt (end_of it) first.start) (int_lt (end_of first) it.start) e first rest it after h
    (λ other lt. with_run_after e rest other good.3 (begins_later e (end_of first) rest (omega (arith, ints)) good.2) lt)

step_canonical : (s t : Bool) (first : Run) (rest : List Run) (it : Run) → int_lt (end_of it) first.start ≡ s → int_lt (end_of first) it.start ≡ t → IsCanonical (first ∷ rest) → IsInBounds it → 0 < it.len →
    ((other : Run) → IsInBounds other → 0 < other.len → IsCanonical (with_run rest other)) → IsCanonical (step s t first rest it)
step_canonical true t first rest it before after good fits more later = (fits, more, omega (arith, ints), good)
step_canonical false true first rest it before after good fits more later = (good.0, good.1, with_run_after (end_of first) rest it good.3 good.2 (omega (arith, ints)), later it fits more)
step_canonical false false first rest it before after good fits more later = later (joined first it) (joined_bounds first it good.1 good.0 fits) (joined_some first it good.1)

pub with_run_canonical : (runs : List Run) (it : Run) → IsCanonical runs → IsInBounds it → 0 < it.len → IsCanonical (with_run runs it)
with_run_canonical [] it good fits more = (fits, more, tt, tt)
with_run_canonical (first ∷ rest) it good fits more =
    step_canonical (int_lt (end_of it) first.start) (int_lt (end_of first) it.start) first rest it refl refl good fits more (λ other x y. with_run_canonical rest other good.3 x y)
