-- Sets of bytes as runs. A buffer of MPI is a set of bytes, most of which lie side by side (MPI 4.0, "Datatypes",
-- the typemap and its addresses).
use Rattle.std.specs.Prelude.{◌≡◌, ◌<◌, ◌^◌, ℤ, pos, neg_ℤ, ◌+ℤ◌, ◌≤ℤ◌, ◌<ℤ◌, List, [], ◌∷◌, ◌⊎◌, ◌↔◌, ⊤}
use Rattle.rma_bytes.specs.declared.run.Run.{Run}

-- the first number after the bytes of a run
abbrev pub end_of : Run → ℤ
end_of run = run.start +ℤ pos run.len

-- the number b is a byte of the run
abbrev pub IsByteOf : Run → ℤ → Type 0
IsByteOf run b = (run.start ≤ℤ b) × (b <ℤ end_of run)

-- b is a byte of one of the runs
abbrev pub HasByte : List Run → ℤ → Type 0
HasByte [] b = ⊥
HasByte (run ∷ runs) b = IsByteOf run b ⊎ HasByte runs b

-- two lists of runs have the same bytes
abbrev pub SameBytes : List Run → List Run → Type 0
SameBytes xs ys = (b : ℤ) → HasByte xs b ↔ HasByte ys b

-- the run lies in -2^49 to 2^49, which is far more than the space of addresses and keeps every sum within 64 bits
abbrev pub IsInBounds : Run → Type 0
IsInBounds run = (neg_ℤ (pos (2 ^ 49)) ≤ℤ run.start) × (end_of run ≤ℤ pos (2 ^ 49))

-- b is a number that a run within the bounds may have for a byte
abbrev pub IsWithinBounds : ℤ → Type 0
IsWithinBounds b = (neg_ℤ (pos (2 ^ 49)) ≤ℤ b) × (b <ℤ pos (2 ^ 49))

-- the first of the runs, if there is one, begins after e: at least one number lies between
abbrev pub BeginsAfter : ℤ → List Run → Type 0
BeginsAfter e [] = ⊤
BeginsAfter e (run ∷ runs) = e <ℤ run.start

-- the one way to write a set of bytes: the runs ascend, none is empty, none overlaps or touches the next, and all
-- lie within the bounds
abbrev pub IsCanonical : List Run → Type 0
IsCanonical [] = ⊤
IsCanonical (run ∷ runs) = IsInBounds run × (0 < run.len) × BeginsAfter (end_of run) runs × IsCanonical runs

-- a run moved by a distance
abbrev pub moved : ℤ → Run → Run
moved by run = record run { start = run.start +ℤ by }

-- two lists of runs in canonical form with the same bytes are equal
abbrev pub CanonicalRunsAreUnique : Type 0
CanonicalRunsAreUnique = (xs ys : List Run) → IsCanonical xs → IsCanonical ys → SameBytes xs ys → xs ≡ ys
