-- Runs that are moved by one distance, and then by another.
use Rattle.std.proofs.Common.{◌≡◌, ℕ, ◌<◌, ◌≤◌, List, [], ◌∷◌, length, map, refl, ap, ap₂, subst, ◌∙◌, arith, w64}
use Rattle.std.specs.Prelude.{ℤ, pos, neg_ℤ, ◌^◌, ◌+ℤ◌, ◌≤ℤ◌, Some, slice_get, option_map}
use Rattle.std.proofs.lemmas.Int.{ints}
use Rattle.std.proofs.lemmas.Option.{slice_get-map, slice_get_within, get_or_from_slice_get}
use mir.Val.{SFits}
use Rattle.rma_bytes.specs.declared.run.Run.{Run}
use Rattle.rma_bytes.specs.Runs.{HasByte, IsInBounds, IsWithinBounds, IsCanonical, moved}
use Rattle.rma_bytes.proofs.RunLemmas.{same_run, canonical_at}
use Rattle.rma_bytes.proofs.IndexLemmas.{canonical_moved}

pub moved_by_zero : (runs : List Run) → map (moved (pos 0)) runs ≡ runs
moved_by_zero [] = refl
moved_by_zero (x ∷ xs) = ap₂ (λ r rs. r ∷ rs) (same_run (moved (pos 0) x) x (omega (arith, ints)) refl) (moved_by_zero xs)

pub moved_twice : (a b : ℤ) (runs : List Run) → map (moved b) (map (moved a) runs) ≡ map (moved (a +ℤ b)) runs
moved_twice a b [] = refl
moved_twice a b (x ∷ xs) = ap₂ (λ r rs. r ∷ rs) (same_run (moved b (moved a x)) (moved (a +ℤ b) x) (omega (arith, ints)) refl) (moved_twice a b xs)

-- a list of one run is known by that run
pub single : (runs : List Run) (run : Run) → length runs ≡ 1 → slice_get runs 0 ≡ Some run → run ∷ [] ≡ runs
single [] run one is = absurd (omega arith)
single (x ∷ []) run one is = cc
single (x ∷ y ∷ ys) run one is = absurd (omega arith)

-- how far runs may be moved that lie in the bounds before and after
pub distance_is_small : (a : ℤ) (runs : List Run) → 0 < length runs → IsCanonical runs → IsCanonical (map (moved a) runs)
    → (neg_ℤ (pos (2 ^ 50)) ≤ℤ a) × (a ≤ℤ pos (2 ^ 50))
distance_is_small a [] some good then = absurd (omega arith)
distance_is_small a (x ∷ xs) some good then =
    let before : IsInBounds x = good.0 in
    let after : IsInBounds (moved a x) = then.0 in
    (omega (arith, ints), omega (arith, ints))

-- runs that are moved, and may be moved on, may be moved by the sum
pub moved_on : (a b : ℤ) (runs : List Run) → IsCanonical (map (moved a) runs) → ((n : ℤ) → HasByte (map (moved a) runs) n → IsWithinBounds (n +ℤ b))
    → IsCanonical (map (moved (a +ℤ b)) runs)
moved_on a b runs good within = subst IsCanonical (moved_twice a b runs) (canonical_moved b (map (moved a) runs) good within)

-- such distances fit the type of the code
pub distance_fits : (a : ℤ) (runs : List Run) → 2 ≤ length runs → IsCanonical runs → IsCanonical (map (moved a) runs) → SFits w64 a
distance_fits a runs some good then = let small = distance_is_small a runs (omega arith) good then in omega (arith, ints)

-- one of the runs, moved
pub moved_at : (a : ℤ) (runs : List Run) (i : ℕ) (run : Run) → slice_get runs i ≡ Some run → slice_get (map (moved a) runs) i ≡ Some (moved a run)
moved_at a runs i run at = slice_get-map (moved a) runs i ∙ ap (option_map (moved a)) at

-- and it lies in the bounds
pub moved_at_within : (a : ℤ) (runs : List Run) (i : ℕ) (run : Run) → slice_get runs i ≡ Some run → IsCanonical (map (moved a) runs) → IsInBounds (moved a run)
moved_at_within a runs i run at good =
    let there = moved_at a runs i run at in
    let lt = slice_get_within (map (moved a) runs) i (moved a run) there in
    rw (get_or_from_slice_get (map (moved a) runs) i (moved a run) (moved a run) there) at (canonical_at (map (moved a) runs) i (moved a run) good lt).0

-- so does where a run within the bounds starts
pub start_fits : (run : Run) → IsInBounds run → SFits w64 run.start
start_fits run bounds = let low = bounds.0 in let high = bounds.1 in omega (arith, ints)
