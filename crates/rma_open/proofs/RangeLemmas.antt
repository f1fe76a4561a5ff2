-- Which of ascending runs lie outside a part.
use Rattle.std.proofs.Common.{◌≡◌, ℕ, ◌+◌, ◌<◌, Bool, true, false, ◌||◌, ◌&&◌, List, length, Some, nat_lt, slice_get, get_or, refl, sym, ap, subst, ◌∙◌, arith, T, ℤ, pos, ◌+ℤ◌, ◌≤ℤ◌, ◌<ℤ◌}
use Rattle.std.proofs.lemmas.Bool.{true≢false}
use Rattle.std.proofs.lemmas.Option.{slice_get_within, get_or_from_slice_get}
use Rattle.std.proofs.Math.Bool.{and-false}
use Rattle.std.proofs.lemmas.List.Folds.{list_any_at}
use Rattle.std.proofs.lemmas.Int.{ints, by_lt_z}
use Rattle.std.proofs.lemmas.Bool.Decides.{nat_tests}
use Rattle.std.specs.Int.Signed.{lt_z, lt_z_yes}
use Rattle.std.specs.List.{list_any}
use Rattle.rma_bytes.specs.declared.run.Run.{Run}
use Rattle.rma_bytes.specs.Runs.{IsCanonical, end_of}
use Rattle.rma_bytes.proofs.RunLemmas.{canonical_at, in_order}
use Rattle.rma_open.specs.Range.{is_outside}
use Rattle.rma_open.proofs.TestLemmas.{none_at, or_left, or_right, same_test}

-- ---- tests of integers

told : (b : Bool) → T b → b ≡ true
told true t = refl
told false t = absurd t

not_below : (a b : ℤ) → lt_z a b ≡ false → b ≤ℤ a
not_below a b shut = by_lt_z a b (λ lt. absurd (true≢false (sym (told (lt_z a b) lt.lt) ∙ shut))) (λ le. le)

is_not_below : (a b : ℤ) → b ≤ℤ a → lt_z a b ≡ false
is_not_below a b le = by (lt_z a b) refl
  where
    by : (r : Bool) → lt_z a b ≡ r → lt_z a b ≡ false
    by false shut = shut
    by true passed = let lt : a <ℤ b = lt_z_yes (subst T (sym passed) tt) in absurd (omega (arith, ints))

-- ---- runs

-- a run that has a byte lies inside where both its ends do
inside : (size from : ℕ) (run : Run) → 0 < run.len → is_outside size from run ≡ false → (lt_z (pos from +ℤ run.start) (pos 0) || lt_z (pos size) (pos from +ℤ end_of run)) ≡ false
inside size from run some shut =
    let there : nat_lt 0 run.len ≡ true = grind (arith, nat_tests) in
    sym (ap (λ b. b && (lt_z (pos from +ℤ run.start) (pos 0) || lt_z (pos size) (pos from +ℤ end_of run))) there) ∙ shut

-- a run between two others lies inside where these do
between : (size from : ℕ) (first run last : Run) → 0 < first.len → 0 < last.len → first.start ≤ℤ run.start → end_of run ≤ℤ end_of last →
    is_outside size from first ≡ false → is_outside size from last ≡ false → is_outside size from run ≡ false
between size from first run last some_first some_last begins ends first_in last_in =
    let low : pos 0 ≤ℤ (pos from +ℤ first.start) =
    not_below (pos from +ℤ first.start) (pos 0) (or_left (lt_z (pos from +ℤ first.start) (pos 0)) (lt_z (pos size) (pos from +ℤ end_of first)) (inside size from first some_first first_in)) in
    let high : (pos from +ℤ end_of last) ≤ℤ pos size =
    not_below (pos size) (pos from +ℤ end_of last) (or_right (lt_z (pos from +ℤ last.start) (pos 0)) (lt_z (pos size) (pos from +ℤ end_of last)) (inside size from last some_last last_in)) in
    ap (λ b. nat_lt 0 run.len && (b || lt_z (pos size) (pos from +ℤ end_of run))) (is_not_below (pos from +ℤ run.start) (pos 0) (omega (arith, ints)))
    ∙ ap (λ b. nat_lt 0 run.len && b) (is_not_below (pos size) (pos from +ℤ end_of run) (omega (arith, ints)))
    ∙ and-false (nat_lt 0 run.len)

-- a test that holds at a place holds for the list
any_at : {X : Type 0} (p : X → Bool) (xs : List X) (i : ℕ) (x : X) → slice_get xs i ≡ Some x → p x ≡ true → list_any p xs ≡ true
any_at p xs i x there passed = list_any_at p xs i x (slice_get_within xs i x there) (ap p (get_or_from_slice_get xs i x x there) ∙ passed)

-- a test that fails for a list fails at each place
none_there : {X : Type 0} (p : X → Bool) (xs : List X) (i : ℕ) (x : X) → slice_get xs i ≡ Some x → list_any p xs ≡ false → p x ≡ false
none_there p xs i x there none = by (p x) refl
  where
    by : (b : Bool) → p x ≡ b → p x ≡ false
    by false shut = shut
    by true passed = absurd (true≢false (sym (any_at p xs i x there passed) ∙ none))

or_false : (a b : Bool) → a ≡ false → b ≡ false → (a || b) ≡ false
or_false false b p q = q
or_false true b p q = p

-- the first and the last of ascending runs tell whether one lies outside
pub ends_tell : (size from : ℕ) (runs : List Run) (first last : Run) (k : ℕ) → IsCanonical runs → k + 1 ≡ length runs → slice_get runs 0 ≡ Some first → slice_get runs k ≡ Some last →
    (is_outside size from first || is_outside size from last) ≡ list_any (is_outside size from) runs
ends_tell size from runs first last k good long at_first at_last =
    same_test (is_outside size from first || is_outside size from last) (list_any (is_outside size from) runs)
    (λ none. or_false (is_outside size from first) (is_outside size from last) (none_there (is_outside size from) runs 0 first at_first none) (none_there (is_outside size from) runs k last at_last none))
    (λ none. none_at (is_outside size from) runs (λ i run there.
    let within : i < length runs = slice_get_within runs i run there in
    let is_first = get_or_from_slice_get runs 0 first run at_first in
    let is_last = get_or_from_slice_get runs k last run at_last in
    let is_run = get_or_from_slice_get runs i run run there in
    let begins : first.start ≤ℤ run.start = subst (λ r. r.start ≤ℤ run.start) is_first (subst (λ r. (get_or runs 0 run).start ≤ℤ r.start) is_run (in_order runs 0 i run good (omega arith) within).0) in
    let ends : end_of run ≤ℤ end_of last = subst (λ r. end_of r ≤ℤ end_of last) is_run (subst (λ r. end_of (get_or runs i run) ≤ℤ end_of r) is_last (in_order runs i k run good (omega arith) (omega arith)).1) in
    let some_first : 0 < first.len = subst (λ r. 0 < r.len) is_first (canonical_at runs 0 run good (omega arith)).1 in
    let some_last : 0 < last.len = subst (λ r. 0 < r.len) is_last (canonical_at runs k run good (omega arith)).1 in
    between size from first run last some_first some_last begins ends
    (or_left (is_outside size from first) (is_outside size from last) none) (or_right (is_outside size from first) (is_outside size from last) none)))
