-- One run against a canonical list, by the indices of its runs; and a list that is moved run by run.
use Rattle.std.proofs.Common.{◌≡◌, ℕ, ◌≤◌, Bool, true, false, ◌+◌, ◌-◌, ◌<◌, List, [], ◌∷◌, ◌++◌, length, get_or, set, take, drop, map, ap, inl, inr, ◌↔◌, ◌∙◌, arith}
use Rattle.std.specs.Prelude.{ℤ, pos, ◌^◌, int_le, ◌+ℤ◌, ◌-ℤ◌, ◌≤ℤ◌, ◌<ℤ◌}
use Rattle.std.proofs.lemmas.Int.{ints, clamps}
use Rattle.std.proofs.lemmas.List.{drop_more, take_at, length-map, length-take-le, get_or_at, get_or_default, get_or-map}
use Rattle.std.specs.Int.{int_min, int_max}
use Rattle.std.specs.List.{All, refill}
use Rattle.std.specs.List.Sorted.{IsPartitionedBy, IsPartitionPoint}
use Rattle.rma_bytes.specs.declared.run.Run.{Run}
use Rattle.rma_bytes.specs.Runs.{end_of, IsByteOf, HasByte, IsInBounds, IsWithinBounds, BeginsAfter, IsCanonical, moved}
use Rattle.rma_bytes.proofs.RunLemmas.{no_run, same_run, has_at, index_of, start_is_byte, canonical_at, in_order}
use Rattle.std.proofs.lemmas.List.Edits.{map_over_more}

-- the run shares a byte with a list exactly where it begins before the end of the list's first run that ends after its start
pub touch : (runs : List Run) (run : Run) (i : ℕ) (at : ℤ) → IsCanonical runs → 0 < run.len → at ≡ run.start
    → ((k : ℕ) (d : Run) → k < i → end_of (get_or runs k d) ≤ℤ at) → ((k : ℕ) (d : Run) → i ≤ k → k < length runs → at <ℤ end_of (get_or runs k d))
    → ((i < length runs) × ((get_or runs i no_run).start <ℤ end_of run)) ↔ ((b : ℤ) × HasByte runs b × IsByteOf run b)
touch runs run i at good some is before after = (
  λ fits.
      let here : Run = get_or runs i no_run in
      let filled : 0 < here.len = (canonical_at runs i no_run good fits.0).1 in
      let ends : at <ℤ end_of here = after i no_run (omega arith) fits.0 in
      let b : ℤ = int_max run.start here.start in
      (b, has_at runs i no_run b fits.0 (omega (arith, ints, clamps), omega (arith, ints, clamps)), (omega (arith, ints, clamps), omega (arith, ints, clamps))),
  λ shared. let found = index_of runs shared.0 shared.1 in grind (arith, ints, before found.0 no_run, in_order runs i found.0 no_run good),
)

-- the list lies within the run exactly where its first run begins there and its last run ends there
pub within : (runs : List Run) (run : Run) → IsCanonical runs → 0 < length runs
    → ((run.start ≤ℤ (get_or runs 0 no_run).start) × (end_of (get_or runs (length runs - 1) no_run) ≤ℤ end_of run)) ↔ ((b : ℤ) → HasByte runs b → IsByteOf run b)
within runs run good some =
    let first : Run = get_or runs 0 no_run in
    let last : Run = get_or runs (length runs - 1) no_run in
    let first_filled : 0 < first.len = (canonical_at runs 0 no_run good some).1 in
    let last_filled : 0 < last.len = (canonical_at runs (length runs - 1) no_run good (omega arith)).1 in
    let e : ℤ = end_of last -ℤ pos 1 in (
      λ fits b has.
          let at = index_of runs b has in
          let low = in_order runs 0 at.0 no_run good (omega arith) at.1 in
          let high = in_order runs at.0 (length runs - 1) no_run good (omega arith) (omega arith) in
          grind (arith, ints),
      λ all.
          let begins = all first.start (has_at runs 0 no_run first.start some (start_is_byte first first_filled)) in
          let ends = all e (has_at runs (length runs - 1) no_run e (omega arith) (omega (arith, ints), omega (arith, ints))) in
          (begins.0, omega (arith, ints)),
    )

-- a list moved as far as i
module _ (b : ℤ) (xs ys : List Run) (i : ℕ) (lt : i < length xs) (so_far : ys ≡ map (moved b) (take i xs) ++ drop i xs) where
  pub moved_read : get_or ys i no_run ≡ get_or xs i no_run
  moved_read =
      ap (λ l. get_or l i no_run) (so_far ∙ ap (λ l. map (moved b) (take i xs) ++ l) (drop_more xs i no_run lt))
      ∙ get_or_at (map (moved b) (take i xs)) (get_or xs i no_run) (drop (i + 1) xs) no_run i (length-map (take i xs) (moved b) ∙ length-take-le i xs (omega arith))

  pub moved_in_bounds : (by : ℤ) → b ≡ by → All IsInBounds (map (moved by) xs) → IsInBounds (moved b (get_or ys i no_run))
  moved_in_bounds by same bounds =
      let fits = rw (get_or-map (moved by) xs i no_run no_run lt) at (bounds i no_run (omega (arith, length-map xs (moved by)))) in
      let starts = ap (λ r. r.start) moved_read in
      let lens = ap (λ r. r.len) moved_read in
      (omega (arith, ints), omega (arith, ints))

  pub moved_more : (run : Run) → i < length ys → run.start ≡ (moved b (get_or ys i no_run)).start → run.len ≡ (get_or ys i no_run).len
      → set ys i run ≡ map (moved b) (take (i + 1) xs) ++ drop (i + 1) xs
  moved_more run within starts lens =
      ap (set ys i) (same_run run (moved b (get_or ys i no_run)) starts lens)
      ∙ map_over_more (moved b) xs ys i (get_or ys i no_run) lt so_far (get_or_default ys i no_run (get_or ys i no_run) within)

-- a list of runs that may be moved stays in canonical form
begins_after_moved : (by e f : ℤ) (runs : List Run) → BeginsAfter e runs → f ≡ e +ℤ by → BeginsAfter f (map (moved by) runs)
begins_after_moved by e f [] after is = tt
begins_after_moved by e f (x ∷ xs) after is = omega (arith, ints)

pub canonical_moved : (by : ℤ) (runs : List Run) → IsCanonical runs → ((b : ℤ) → HasByte runs b → IsWithinBounds (b +ℤ by)) → IsCanonical (map (moved by) runs)
canonical_moved by [] good within = tt
canonical_moved by (x ∷ xs) good within =
    let filled : 0 < x.len = good.1 in
    let first = within x.start (inl (start_is_byte x filled)) in
    let last = within (end_of x -ℤ pos 1) (inl (omega (arith, ints), omega (arith, ints))) in (
      (omega (arith, ints), omega (arith, ints)),
      filled,
      begins_after_moved by (end_of x) (end_of (moved by x)) xs good.2 (omega (arith, ints)),
      canonical_moved by xs good.3 (λ b has. within b (inr has)),
    )

-- and its bytes are those of the list, moved
pub moved_bytes : (by : ℤ) (runs : List Run) (b : ℤ) → HasByte (map (moved by) runs) b ↔ HasByte runs (b -ℤ by)
moved_bytes by [] b = grind arith
moved_bytes by (x ∷ xs) b = let rest = moved_bytes by xs b in grind (arith, ints)

-- what a vector holds once each element was moved
pub refilled : (by : ℤ) (old seen new : List Run) → seen ≡ old → new ≡ map (moved by) seen → refill (length old) old new ≡ map (moved by) old
refilled by old seen new same is =
    let made : new ≡ map (moved by) old = is ∙ ap (map (moved by)) same in
    take_at new (drop (length new) old) (length old) (ap length made ∙ length-map old (moved by)) ∙ made

-- a list in canonical form that is not empty has a byte
pub first_byte : (runs : List Run) → IsCanonical runs → 0 < length runs → (b : ℤ) × HasByte runs b
first_byte [] good some = absurd (omega arith)
first_byte (x ∷ xs) good some = (x.start, inl (start_is_byte x good.1))

-- where a binary search by the ends stops
abbrev pub ends_by : ℤ → Run → Bool
ends_by at run = int_le (int_min (end_of run) (pos (2 ^ 63 - 1))) at

module _ (runs : List Run) (at : ℤ) (good : IsCanonical runs) where
  ends_by_is : (k : ℕ) (d : Run) → k < length runs → (ends_by at (get_or runs k d) ≡ true) ↔ (end_of (get_or runs k d) ≤ℤ at)
  ends_by_is k d lt = let bounds = (canonical_at runs k d good lt).0 in grind (arith, ints, clamps)

  pub ends_partitioned : IsPartitionedBy (ends_by at) runs
  ends_partitioned i j d le lt test = grind (arith, ints, ends_by_is i d, ends_by_is j d, in_order runs i j d good le lt)

  -- the runs before the point end there or before, and the others later
  pub point_splits : (n : ℕ) → IsPartitionPoint (λ y. ends_by at y ≡ true) (λ y. ends_by at y ≡ false) runs n → n ≤ length runs
      → ((k : ℕ) (d : Run) → k < n → end_of (get_or runs k d) ≤ℤ at) × ((k : ℕ) (d : Run) → n ≤ k → k < length runs → at <ℤ end_of (get_or runs k d))
  point_splits n point in_list = (
    λ k d lt. (ends_by_is k d (omega arith)).0 (point.0 k d (omega arith) lt),
    λ k d le lt. grind (arith, ints, ends_by_is k d lt, point.1 k d le lt),
  )
