-- A sort by the starts makes the blocks ascend, and moves bytes about without a loss.
use Rattle.std.proofs.Common.{ℕ, zero, suc, ◌<◌, List, [], ◌∷◌, length, get_or, arith, add-one}
use Rattle.std.specs.Prelude.{ℤ, ◌≤ℤ◌}
use Rattle.std.specs.List.{All}
use Rattle.std.specs.List.Sorted.{IsPermutation, IsSortedByKey}
use Rattle.std.specs.Ordering.{int_cmp}
use Rattle.std.proofs.lemmas.Int.{ints}
use Rattle.std.proofs.lemmas.List.Elements.{All-head, Contains-get_or}
use Rattle.std.proofs.lemmas.List.Sorted.{Contains-permutation, IsPermutation-sym}
use Rattle.rma_bytes.specs.declared.run.Run.{Run}
use Rattle.rma_bytes.specs.Runs.{HasByte, SameBytes, IsInBounds}
use Rattle.rma_bytes.specs.inside.Walks.{AscendFrom, Ascend}
use Rattle.rma_bytes.proofs.RunLemmas.{no_run, has_at, index_of}

ascend_rest : (x : Run) (xs : List Run) → ((k : ℕ) (d : Run) → suc k < length (x ∷ xs) → (get_or (x ∷ xs) k d).start ≤ℤ (get_or xs k d).start) → AscendFrom x.start xs
ascend_rest x [] up = tt
ascend_rest x (y ∷ ys) up = (up zero x (omega arith), ascend_rest y ys (λ k d lt. up (suc k) d (omega arith)))

pub ascend_from_sort : (xs : List Run) → All IsInBounds xs → IsSortedByKey (λ (run : Run). run.start) int_cmp xs → Ascend xs
ascend_from_sort [] bounds up = tt
ascend_from_sort (x ∷ xs) bounds up =
    ((All-head IsInBounds x xs bounds).0, ascend_rest x xs (λ k d lt. let near = rw add-one at (up k d (omega arith) (omega arith)) in grind (arith, ints)))

bytes_moved : (xs ys : List Run) (b : ℤ) → IsPermutation xs ys → HasByte xs b → HasByte ys b
bytes_moved xs ys b moved has =
    let at = index_of xs b has in
    let run : Run = get_or xs at.0 no_run in
    let there = Contains-permutation xs ys run moved (Contains-get_or xs at.0 no_run at.1) in
    has_at ys there.0 run b there.1 (rw there.2 at.2)

-- runs with the bytes of sorted blocks have the bytes of the blocks
pub same_bytes_through : (runs sorted blocks : List Run) → IsPermutation blocks sorted → SameBytes runs sorted → SameBytes runs blocks
same_bytes_through runs sorted blocks moved same b = (
  λ has. bytes_moved sorted blocks b (IsPermutation-sym blocks sorted moved) ((same b).0 has),
  λ has. (same b).1 (bytes_moved blocks sorted b moved has),
)
