-- From the first byte of an access to its last, and the hulls that are looked at one by one.
use Rattle.std.proofs.Common.{◌≡◌, ℕ, ◌+◌, ◌-◌, ◌≤◌, ◌<◌, List, length, Contains, slice_get, Some, sym, ap, subst, ◌∙◌, arith, ⊎_elim}
use Rattle.std.specs.Prelude.{ℤ, ◌≤ℤ◌, ◌<ℤ◌}
use Rattle.std.proofs.lemmas.Bool.{cases_lt}
use Rattle.std.proofs.lemmas.Int.{ints}
use Rattle.std.proofs.lemmas.Option.{get_or_from_slice_get, same_Some, slice_get_within}
use Rattle.rma_bytes.specs.declared.run.Run.{Run}
use Rattle.rma_bytes.specs.Runs.{end_of, HasByte, IsCanonical}
use Rattle.rma_bytes.proofs.RunLemmas.{in_order, index_of, no_run}
use Rattle.rma_history.specs.declared.reach.Hull.{Hull}
use Rattle.rma_history.specs.inside.Hull.{IsWithin}

-- each byte of a canonical list lies between the start of its first run and the end of its last
pub lies_within : (runs : List Run) (first last : Run) → IsCanonical runs → slice_get runs 0 ≡ Some first → slice_get runs (length runs - 1) ≡ Some last
    → (b : ℤ) → HasByte runs b → (first.start ≤ℤ b) × (b <ℤ end_of last)
lies_within runs first last good head foot b has =
    let at = index_of runs b has in
    let some : 0 < length runs = slice_get_within runs 0 first head in
    let low = in_order runs 0 at.0 no_run good (omega arith) at.1 in
    let high = in_order runs at.0 (length runs - 1) no_run good (omega arith) (omega (arith, some)) in
    let starts = ap (λ (r : Run). r.start) (get_or_from_slice_get runs 0 first no_run head) in
    let ends = ap (λ (r : Run). end_of r) (get_or_from_slice_get runs (length runs - 1) last no_run foot) in
    grind (arith, ints)

-- the hulls below an index are found, with the one at it
pub found_more : (hulls : List Hull) (from n : ℕ) (hull here : Hull) (met new : List ℕ) → slice_get hulls n ≡ Some here
    → ((i : ℕ) (other : Hull) (b : ℤ) → from ≤ i → i < n → slice_get hulls i ≡ Some other → IsWithin other b → IsWithin hull b → Contains met i)
    → ((i : ℕ) → Contains met i → Contains new i)
    → ((b : ℤ) → IsWithin here b → IsWithin hull b → Contains new n)
    → (i : ℕ) (other : Hull) (b : ℤ) → from ≤ i → i < n + 1 → slice_get hulls i ≡ Some other → IsWithin other b → IsWithin hull b → Contains new i
found_more hulls from n hull here met new at found kept own i other b low less there within meets = ⊎_elim
    (λ before. kept i (found i other b low before there within meets))
    (λ past.
    let last : i ≡ n = omega arith in
    let same : other ≡ here = same_Some other here (sym there ∙ ap (slice_get hulls) last ∙ at) in
    subst (Contains new) (sym last) (own b (subst (λ h. IsWithin h b) same within) meets))
    (cases_lt i n)
