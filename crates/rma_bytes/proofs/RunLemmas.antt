-- Lists of runs in canonical form: a byte of a later run lies beyond an earlier run, and the bytes name the list.
use Rattle.std.proofs.Common.{◌≡◌, ℕ, ◌<◌, ◌≤◌, List, [], ◌∷◌, length, get_or, zero, suc, refl, ap₂, inl, inr, arith}
use Rattle.std.specs.Prelude.{ℤ, pos, ◌≤ℤ◌, ◌<ℤ◌}
use Rattle.std.proofs.lemmas.Int.{ints}
use Rattle.rma_bytes.specs.declared.run.Run.{Run}
use Rattle.rma_bytes.specs.Runs.{end_of, IsByteOf, HasByte, SameBytes, IsInBounds, BeginsAfter, IsCanonical, CanonicalRunsAreUnique}

-- a byte of what comes after e is greater than e
pub byte_after : (e : ℤ) (runs : List Run) (b : ℤ) → BeginsAfter e runs → IsCanonical runs → HasByte runs b → e <ℤ b
byte_after e [] b after good has = absurd has
byte_after e (run ∷ runs) b after good has = let later = byte_after (end_of run) runs b good.2 good.3 in grind (arith, ints)

-- a run that is not empty has its start for a byte
pub start_is_byte : (run : Run) → 0 < run.len → IsByteOf run run.start
start_is_byte run some = (omega (arith, ints), omega (arith, ints))

pub same_run : (x y : Run) → x.start ≡ y.start → x.len ≡ y.len → x ≡ y
same_run x y starts lens = ap₂ (λ (s : ℤ) (n : ℕ). let run : Run = record { start = s; len = n } in run) starts lens

-- the first runs of lists with the same bytes are equal, and so are the bytes of the others
module _ (x y : Run) (xs ys : List Run) (good_x : IsCanonical (x ∷ xs)) (good_y : IsCanonical (y ∷ ys)) (same : SameBytes (x ∷ xs) (y ∷ ys)) where
  later_x : (b : ℤ) → HasByte xs b → end_of x <ℤ b
  later_x b = byte_after (end_of x) xs b good_x.2 good_x.3

  later_y : (b : ℤ) → HasByte ys b → end_of y <ℤ b
  later_y b = byte_after (end_of y) ys b good_y.2 good_y.3

  same_starts : x.start ≡ y.start
  same_starts = grind (arith, ints, same x.start, same y.start, later_x y.start, later_y x.start)

  same_ends : end_of x ≡ end_of y
  same_ends = grind (arith, ints, same_starts, same (end_of x), same (end_of y), later_x (end_of x), later_x (end_of y), later_y (end_of x), later_y (end_of y))

  same_first : x ≡ y
  same_first = same_run x y same_starts (omega (arith, ints, same_starts, same_ends))

  same_rest : SameBytes xs ys
  same_rest b = grind (arith, ints, same_ends, same b, later_x b, later_y b)

pub canonical_unique : CanonicalRunsAreUnique
canonical_unique [] [] good_x good_y same = refl
canonical_unique [] (y ∷ ys) good_x good_y same = absurd ((same y.start).1 (inl (start_is_byte y good_y.1)))
canonical_unique (x ∷ xs) [] good_x good_y same = absurd ((same x.start).0 (inl (start_is_byte x good_x.1)))
canonical_unique (x ∷ xs) (y ∷ ys) good_x good_y same =
    let first = same_first x y xs ys good_x good_y same in
    let rest = canonical_unique xs ys good_x.3 good_y.3 (same_rest x y xs ys good_x good_y same) in
    cc

-- what a read of the code gives past the end
abbrev pub no_run : Run
no_run = record { start = pos 0; len = 0 }

-- a byte of a run of a list is a byte of the list, and each byte of a list is a byte of one of its runs
pub has_at : (xs : List Run) (k : ℕ) (d : Run) (b : ℤ) → k < length xs → IsByteOf (get_or xs k d) b → HasByte xs b
has_at [] k d b lt is = absurd (omega arith)
has_at (x ∷ xs) zero d b lt is = inl is
has_at (x ∷ xs) (suc k) d b lt is = inr (has_at xs k d b (omega arith) is)

pub index_of : (xs : List Run) (b : ℤ) → HasByte xs b → (k : ℕ) × (k < length xs) × IsByteOf (get_or xs k no_run) b
index_of [] b has = absurd has
index_of (x ∷ xs) b (inl here) = (zero, omega arith, here)
index_of (x ∷ xs) b (inr there) =
    let at = index_of xs b there in
    let lt : at.0 < length xs = at.1 in
    (suc at.0, omega arith, at.2)

-- each run of a canonical list lies in the bounds and is not empty
pub canonical_at : (xs : List Run) (k : ℕ) (d : Run) → IsCanonical xs → k < length xs → IsInBounds (get_or xs k d) × (0 < (get_or xs k d).len)
canonical_at [] k d good lt = absurd (omega arith)
canonical_at (x ∷ xs) zero d good lt = (good.0, good.1)
canonical_at (x ∷ xs) (suc k) d good lt = canonical_at xs k d good.3 (omega arith)

-- later runs of a canonical list begin and end later
pub in_order : (xs : List Run) (i k : ℕ) (d : Run) → IsCanonical xs → i ≤ k → k < length xs
    → ((get_or xs i d).start ≤ℤ (get_or xs k d).start) × (end_of (get_or xs i d) ≤ℤ end_of (get_or xs k d))
in_order [] i k d good le lt = absurd (omega arith)
in_order (x ∷ xs) zero zero d good le lt = (omega (arith, ints), omega (arith, ints))
in_order (x ∷ xs) zero (suc k) d good le lt =
    let start = (get_or xs k d).start in
    let beyond =
    byte_after (end_of x) xs start good.2 good.3 (has_at xs k d start (omega arith) (start_is_byte (get_or xs k d) (canonical_at xs k d good.3 (omega arith)).1)) in
    (omega (arith, ints), omega (arith, ints))
in_order (x ∷ xs) (suc i) zero d good le lt = absurd (omega arith)
in_order (x ∷ xs) (suc i) (suc k) d good le lt = in_order xs i k d good.3 (omega arith) (omega arith)
