-- What the checks of a constructor's arguments let through.
use Rattle.std.proofs.Common.{◌≡◌, ◌≤◌, ℤ, pos, ◌≤ℤ◌, false, List, [], ◌∷◌, All, ℕ, arith, nat_lt}
use Rattle.rma_type.proofs.Words.{list_any, list_all, nat_tests, address_limit, Block, ByteBlock, Make, Contiguous, Vector, Hvector, Indexed, Hindexed, IndexedBlock, Struct, Resized, Subarray, is_part, cuts_of, whole_of_cuts, is_negative, has_negative, breaks_array, has_large_array, IsCounted, IsSingle, All-cons, All-nil, not-false, or_parts}
use Rattle.std.proofs.lemmas.Int.{ints}

-- a constructor with one old datatype
abbrev pub HasOneOld : Make → Type 0
HasOneOld (Struct members) = ⊥
HasOneOld _ = Unit {0}

not_negative : (x : ℤ) → is_negative x ≡ false → pos 0 ≤ℤ x
not_negative x h = omega (arith, ints)

pub none_negative : {B : Type 0} (count : B → ℤ) (bs : List B) → list_any (λ b. is_negative (count b)) bs ≡ false → All (λ b. pos 0 ≤ℤ count b) bs
none_negative count [] h = All-nil (λ b. pos 0 ≤ℤ count b)
none_negative count (b ∷ bs) h =
    let both = or_parts (is_negative (count b)) _ h in All-cons (λ x. pos 0 ≤ℤ count x) b bs (not_negative (count b) both.0) (none_negative count bs both.1)

pub IsCounted_checked : (constructor : Make) → HasOneOld constructor → has_negative constructor ≡ false → breaks_array constructor ≡ false → IsCounted constructor
IsCounted_checked (Contiguous count old) one n b = not_negative count n
IsCounted_checked (Vector count len stride old) one n b = let both = or_parts (is_negative count) _ n in (not_negative count both.0, not_negative len both.1)
IsCounted_checked (Hvector count len stride old) one n b = let both = or_parts (is_negative count) _ n in (not_negative count both.0, not_negative len both.1)
IsCounted_checked (Indexed old blocks) one n b = none_negative (λ (x : Block). x.length) blocks n
IsCounted_checked (Hindexed old blocks) one n b = none_negative (λ (x : ByteBlock). x.length) blocks n
IsCounted_checked (IndexedBlock len old displacements) one n b = not_negative len n
IsCounted_checked (Struct members) one n b = one
IsCounted_checked (Resized old low extent) one n b = tt
IsCounted_checked (Subarray order old dimensions) one n b = not-false (list_all is_part dimensions) b

pub not_above : (m n : ℕ) → nat_lt m n ≡ false → n ≤ m
not_above m n h = grind (arith, nat_tests)

pub IsSingle_checked : (constructor : Make) → IsCounted constructor → has_large_array constructor ≡ false → IsSingle constructor
IsSingle_checked (Subarray order old dimensions) c l = (c, not_above address_limit (whole_of_cuts (cuts_of order dimensions)) l)
IsSingle_checked _ c l = c
