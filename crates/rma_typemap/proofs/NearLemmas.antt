-- Summaries stay sound, and near, under copies, moves and joins.
use Rattle.std.proofs.Common.{◌≡◌, ℕ, zero, suc, ◌+◌, ◌*◌, ◌≤◌, max, ℤ, pos, negsuc, ◌+ℤ◌, ◌*ℤ◌, Option, Some, None, arith}
use Rattle.rma_typemap.proofs.Words.{int_min, int_max, ints, clamps, mul-le-mul_left, Span, Blocks, Summary, gap, IsNear, SpanIsNear, BlocksAreNear, BlocksAreFew, IsAligned, IsNearby, IsSound, joined_span, moved_span, stretched_span, joined_blocks, moved_blocks, repeated_blocks, joined, displaced, with_more, repeated, empty_summary, mul-le-mul_right}
use Rattle.std.proofs.lemmas.Nat.{mul-le}
use Rattle.rma_typemap.proofs.BlocksLemmas.{gap_small}

-- ---- near numbers

pub near_wider : (far wide : ℕ) (x : ℤ) → far ≤ wide → IsNear far x → IsNear wide x
near_wider far wide x le h = record { low = omega (arith, ints); high = omega (arith, ints) }

pub near_add : (far more : ℕ) (x y : ℤ) → IsNear far x → IsNear more y → IsNear (far + more) (x +ℤ y)
near_add far more x y h k = record { low = omega (arith, ints); high = omega (arith, ints) }

pub near_clamped : (far : ℕ) (x y : ℤ) → IsNear far x → IsNear far y → IsNear far (int_min x y) × IsNear far (int_max x y)
near_clamped far x y h k = (record { low = omega (arith, ints, clamps); high = omega (arith, ints, clamps) }, record { low = omega (arith, ints, clamps); high = omega (arith, ints, clamps) })

pub near_mul : (m n : ℕ) (x y : ℤ) → IsNear m x → IsNear n y → IsNear (m * n) (x *ℤ y)
near_mul m n (pos a) (pos b) h k =
    let le = mul-le a b m n (omega (arith, ints)) (omega (arith, ints)) in record { low = omega (arith, ints); high = omega (arith, ints) }
near_mul m n (pos a) (negsuc b) h k =
    let le = mul-le a (suc b) m n (omega (arith, ints)) (omega (arith, ints)) in record { low = omega (arith, ints); high = omega (arith, ints) }
near_mul m n (negsuc a) (pos b) h k =
    let le = mul-le (suc a) b m n (omega (arith, ints)) (omega (arith, ints)) in record { low = omega (arith, ints); high = omega (arith, ints) }
near_mul m n (negsuc a) (negsuc b) h k =
    let le = mul-le (suc a) (suc b) m n (omega (arith, ints)) (omega (arith, ints)) in record { low = omega (arith, ints); high = omega (arith, ints) }

pub near_count : (m n : ℕ) (k : ℕ) (y : ℤ) → k ≤ m → IsNear n y → IsNear (m * n) (pos k *ℤ y)
near_count m n k y le h = near_mul m n (pos k) y (record { low = omega (arith, ints); high = omega (arith, ints) }) h

pub near_at_most : (far n m : ℕ) (s : ℤ) → n ≤ m → IsNear far (pos m *ℤ s) → IsNear far (pos n *ℤ s)
near_at_most far n m (pos s) le h = let p = mul-le-mul_right s le in record { low = omega (arith, ints); high = omega (arith, ints) }
near_at_most far n m (negsuc s) le h = let p = mul-le-mul_right (suc s) le in record { low = omega (arith, ints); high = omega (arith, ints) }

-- ---- near summaries

SpanIsNear_wider : (far wide : ℕ) (a : Option Span) → far ≤ wide → SpanIsNear far a → SpanIsNear wide a
SpanIsNear_wider far wide None le h = tt
SpanIsNear_wider far wide (Some a) le h = (near_wider far wide a.low le h.0, near_wider far wide a.high le h.1)

BlocksAreNear_wider : (far wide : ℕ) (a : Option Blocks) → far ≤ wide → BlocksAreNear far a → BlocksAreNear wide a
BlocksAreNear_wider far wide None le h = tt
BlocksAreNear_wider far wide (Some a) le h = (near_wider far wide a.first le h.0, near_wider far wide a.last le h.1)

pub IsNearby_wider : (far wide : ℕ) (a : Summary) → far ≤ wide → IsNearby far a → IsNearby wide a
IsNearby_wider far wide a le h = search (SpanIsNear_wider, BlocksAreNear_wider)

pub IsNearby_empty : (far : ℕ) → IsNearby far empty_summary
IsNearby_empty far = record { bytes = tt; lower = tt; upper = tt; blocks = tt }

SpanIsNear_moved : (far more : ℕ) (by : ℤ) (a : Option Span) → IsNear more by → SpanIsNear far a → SpanIsNear (more + far) (moved_span by a)
SpanIsNear_moved far more by None k h = tt
SpanIsNear_moved far more by (Some a) k h = (near_add more far by a.low k h.0, near_add more far by a.high k h.1)

BlocksAreNear_moved : (far more : ℕ) (by : ℤ) (a : Option Blocks) → IsNear more by → BlocksAreNear far a → BlocksAreNear (more + far) (moved_blocks by a)
BlocksAreNear_moved far more by None k h = tt
BlocksAreNear_moved far more by (Some a) k h = (near_add more far by a.first k h.0, near_add more far by a.last k h.1)

pub IsNearby_displaced : (far more : ℕ) (by : ℤ) (a : Summary) → IsNear more by → IsNearby far a → IsNearby (more + far) (displaced by a)
IsNearby_displaced far more by a k h = search (SpanIsNear_moved, BlocksAreNear_moved)

pub SpanIsNear_joined : (far : ℕ) (a b : Option Span) → SpanIsNear far a → SpanIsNear far b → SpanIsNear far (joined_span a b)
SpanIsNear_joined far None b h k = k
SpanIsNear_joined far (Some a) None h k = h
SpanIsNear_joined far (Some a) (Some b) h k = ((near_clamped far a.low b.low h.0 k.0).0, (near_clamped far a.high b.high h.1 k.1).1)

BlocksAreNear_joined : (far : ℕ) (a b : Option Blocks) → BlocksAreNear far a → BlocksAreNear far b → BlocksAreNear far (joined_blocks a b)
BlocksAreNear_joined far None b h k = k
BlocksAreNear_joined far (Some a) None h k = h
BlocksAreNear_joined far (Some a) (Some b) h k = (h.0, k.1)

pub IsNearby_joined : (far : ℕ) (a b : Summary) → IsNearby far a → IsNearby far b → IsNearby far (joined a b)
IsNearby_joined far a b h k = search (SpanIsNear_joined, BlocksAreNear_joined)

SpanIsNear_stretched : (far more : ℕ) (by : ℤ) (a : Option Span) → IsNear more by → SpanIsNear far a → SpanIsNear (far + more) (stretched_span by a)
SpanIsNear_stretched far more by None k h = tt
SpanIsNear_stretched far more by (Some a) k h =
    let both = near_clamped more (pos 0) by (record { low = omega (arith, ints); high = omega (arith, ints) }) k in
    (near_add far more a.low (int_min (pos 0) by) h.0 both.0, near_add far more a.high (int_max (pos 0) by) h.1 both.1)

BlocksAreNear_repeated : (far more n : ℕ) (s : ℤ) (a : Option Blocks) → IsNear more (pos n *ℤ s) → BlocksAreNear far a → BlocksAreNear (far + more) (repeated_blocks n s a)
BlocksAreNear_repeated far more n s None k h = tt
BlocksAreNear_repeated far more n s (Some a) k h = (near_wider far (far + more) a.first (omega arith) h.0, near_add far more a.last (pos n *ℤ s) h.1 k)

pub IsNearby_with_more : (far more n : ℕ) (s : ℤ) (a : Summary) → IsNear more (pos n *ℤ s) → IsNearby far a → IsNearby (far + more) (with_more n s a)
IsNearby_with_more far more n s a k h = search (SpanIsNear_stretched, BlocksAreNear_repeated)

pub IsNearby_repeated : (far more n : ℕ) (s : ℤ) (a : Summary) → IsNear more (pos n *ℤ s) → IsNearby far a → IsNearby (far + more) (repeated n s a)
IsNearby_repeated far more zero s a k h = IsNearby_empty (far + more)
IsNearby_repeated far more (suc n) s a k h = IsNearby_with_more far more n s a (near_at_most more n (suc n) s (omega arith) k) h

-- ---- sound summaries

pub IsSound_empty : IsSound empty_summary
IsSound_empty = record { small = omega arith; low = omega arith; short = tt; aligned = tt }

IsAligned_moved : (n : ℕ) (by : ℤ) (a : Option Span) → IsAligned n a → IsAligned n (moved_span by a)
IsAligned_moved n by None h = tt
IsAligned_moved n by (Some a) h = h

BlocksAreFew_moved : (n : ℕ) (by : ℤ) (a : Option Blocks) → BlocksAreFew n a → BlocksAreFew n (moved_blocks by a)
BlocksAreFew_moved n by None h = tt
BlocksAreFew_moved n by (Some a) h = h

pub IsSound_displaced : (by : ℤ) (a : Summary) → IsSound a → IsSound (displaced by a)
IsSound_displaced by a h = search (BlocksAreFew_moved, IsAligned_moved)

IsAligned_joined : (m n : ℕ) (a b : Option Span) → IsAligned m a → IsAligned n b → IsAligned (max m n) (joined_span a b)
IsAligned_joined m n None None h k = tt
IsAligned_joined m n None (Some b) h k = omega arith
IsAligned_joined m n (Some a) None h k = omega arith
IsAligned_joined m n (Some a) (Some b) h k = omega arith

BlocksAreFew_joined : (m n : ℕ) (a b : Option Blocks) → BlocksAreFew m a → BlocksAreFew n b → BlocksAreFew (m + n) (joined_blocks a b)
BlocksAreFew_joined m n None None h k = tt
BlocksAreFew_joined m n None (Some b) h k = omega arith
BlocksAreFew_joined m n (Some a) None h k = omega arith
BlocksAreFew_joined m n (Some a) (Some b) h k = let g = gap_small a.last b.first in omega arith

pub IsSound_joined : (a b : Summary) → IsSound a → IsSound b → IsSound (joined a b)
IsSound_joined a b h k =
    let small : a.size + b.size ≤ 8 * (a.entries + b.entries) = omega (arith, h.small, k.small) in
    let low : max a.alignment b.alignment ≤ 8 = omega (arith, h.low, k.low) in
    search (BlocksAreFew_joined, IsAligned_joined)

IsAligned_stretched : (n : ℕ) (by : ℤ) (a : Option Span) → IsAligned n a → IsAligned n (stretched_span by a)
IsAligned_stretched n by None h = tt
IsAligned_stretched n by (Some a) h = h

BlocksAreFew_repeated : (m n : ℕ) (s : ℤ) (a : Option Blocks) → BlocksAreFew m a → BlocksAreFew (m + n * m) (repeated_blocks n s a)
BlocksAreFew_repeated m n s None h = tt
BlocksAreFew_repeated m n s (Some a) h =
    let g = gap_small a.last (a.first +ℤ s) in
    let le : a.gaps + gap a.last (a.first +ℤ s) ≤ m = omega arith in
    omega (arith, mul-le-mul_left n le)

IsSound_with_more : (n : ℕ) (s : ℤ) (a : Summary) → IsSound a → IsSound (with_more n s a)
IsSound_with_more n s a h =
    let small : a.size + n * a.size ≤ 8 * (a.entries + n * a.entries) = omega (arith, h.small, mul-le-mul_left n h.small) in
    search (BlocksAreFew_repeated, IsAligned_stretched)

pub IsSound_repeated : (n : ℕ) (s : ℤ) (a : Summary) → IsSound a → IsSound (repeated n s a)
IsSound_repeated zero s a h = IsSound_empty
IsSound_repeated (suc n) s a h = IsSound_with_more n s a h

pub entries_repeated : (n : ℕ) (s : ℤ) (a : Summary) → (repeated n s a).entries ≡ n * a.entries
entries_repeated zero s a = omega arith
entries_repeated (suc n) s a = omega arith
