-- The signature of what a constructor makes.
use Rattle.std.proofs.Common.{◌≡◌, ℕ, zero, suc, ◌+◌, ◌*◌, ℤ, List, [], ◌∷◌, ◌++◌, map, flat_map, length, replicate, sum_by, zip, refl, sym, ap, ◌∙◌, arith}
use Rattle.rma_typemap.proofs.Words.{range_with_len, length-append, length-map, map-append, append-nil, append_assoc, replicate-append-replicate, sum_by-cons, Basic, Dimension, Member, Make, Contiguous, Vector, Hvector, Indexed, Hindexed, IndexedBlock, Struct, Resized, Subarray, Typemap, lower_mark, upper_mark, copy_at, copies_at, extent, signature, entry_count, cut_of, cuts_of, part_of_cuts, numbers, times, block_displacements, byte_block_displacements, indices, slowest_first, without_marks, with_bounds, members_of, constructed, contiguous, vector, hvector, indexed, hindexed, indexed_block, resized, subarray, copies_of, IsCounted, copies, elements, summary}
use Rattle.std.proofs.lemmas.List.FromFn.{length-range_with_len}
use Rattle.std.proofs.lemmas.Simd.{map-map}
use Rattle.rma_typemap.proofs.BlocksLemmas.{moved_element}
use Rattle.rma_typemap.proofs.SummaryLemmas.{elements_append, parts_copy_at}
use Rattle.rma_typemap.proofs.BoundLemmas.{entry_count_is}
use Rattle.rma_typemap.proofs.CopyLemmas.{no_marks}

-- ---- copies

pub copies_zero : (bs : List Basic) → copies 0 bs ≡ []
unfolding copies
copies_zero bs = refl

pub copies_suc : (n : ℕ) (bs : List Basic) → copies (suc n) bs ≡ bs ++ copies n bs
unfolding copies
copies_suc n bs = refl

pub copies_one : (bs : List Basic) → copies 1 bs ≡ bs
unfolding copies
copies_one bs = append-nil bs

pub copies_nil : (n : ℕ) → copies n [] ≡ []
unfolding copies
copies_nil zero = refl
copies_nil (suc n) = copies_nil n

pub copies_add : (m n : ℕ) (bs : List Basic) → copies (m + n) bs ≡ copies m bs ++ copies n bs
copies_add zero n bs = let none : 0 + n ≡ n = omega arith in rw (none, copies_zero bs)
copies_add (suc m) n bs =
    let one_more : suc m + n ≡ suc (m + n) = omega arith in rw (one_more, copies_suc (m + n) bs, copies_suc m bs, append_assoc, copies_add m n bs)

pub length_copies : (n : ℕ) (bs : List Basic) → length (copies n bs) ≡ n * length bs
length_copies zero bs = ap length (copies_zero bs) ∙ omega arith
length_copies (suc n) bs = ap length (copies_suc n bs) ∙ length-append bs (copies n bs) ∙ omega (arith, length_copies n bs)

pub copies_replicate : (n k : ℕ) (b : Basic) → copies n (replicate k b) ≡ replicate (n * k) b
copies_replicate zero k b = let none : 0 * k ≡ 0 = omega arith in rw (none, copies_zero (replicate k b))
copies_replicate (suc n) k b =
    let one_more : suc n * k ≡ k + n * k = omega arith in rw (one_more, copies_suc n (replicate k b), copies_replicate n k b) (replicate-append-replicate k (n * k) b)

-- ---- the signature of copies

pub length_signature : (m : Typemap) → length (signature m) ≡ entry_count m
unfolding signature entry_count
length_signature m = length-map _ (λ e. e.0)

pub signature_append : (m n : Typemap) → signature (m ++ n) ≡ signature m ++ signature n
unfolding signature
signature_append m n = ap (map (λ e. e.0)) (elements_append m n) ∙ map-append (λ e. e.0) _ _

signature_nil : signature [] ≡ []
unfolding signature
signature_nil = refl

signature_copy_at : (by : ℤ) (m : Typemap) → signature (copy_at by m) ≡ signature m
unfolding signature
signature_copy_at by m = rw (parts_copy_at by m).0 (map-map (λ e. e.0) (moved_element by) (elements m))

signature_copies_at : (indices : List ℤ) (m : Typemap) → signature (copies_at indices m) ≡ copies (length indices) (signature m)
signature_copies_at [] m = signature_nil ∙ sym (copies_zero (signature m))
signature_copies_at (at ∷ indices) m = rw (signature_append, signature_copy_at at m, signature_copies_at indices m, copies_suc (length indices) (signature m))

copies_so_many : (indices : List ℤ) (n : ℕ) (m : Typemap) → length indices ≡ n → signature (copies_at indices m) ≡ copies n (signature m)
copies_so_many indices n m e = signature_copies_at indices m ∙ ap (λ k. copies k (signature m)) e

signature_without_marks : (m : Typemap) → signature (without_marks m) ≡ signature m
unfolding signature
signature_without_marks m = ap (map (λ e. e.0)) (no_marks m).0

signature_with_bounds : (low high : ℤ) (m : Typemap) → signature (with_bounds low high m) ≡ signature m
unfolding signature
signature_with_bounds low high m = signature_append (without_marks m) (lower_mark low ∷ upper_mark high ∷ []) ∙ append-nil (signature (without_marks m)) ∙ signature_without_marks m

-- ---- how many copies

length_numbers : (n : ℕ) → length (numbers n) ≡ n
length_numbers n = length-map (range_with_len 0 n) _ ∙ length-range_with_len 0 n

length_mapped : (f : ℤ → ℤ) (n : ℕ) → length (map f (numbers n)) ≡ n
length_mapped f n = length-map (numbers n) f ∙ length_numbers n

length_even_rows : {X : Type 0} (row : X → List ℤ) (len : ℕ) → ((x : X) → length (row x) ≡ len) → (xs : List X) → length (flat_map row xs) ≡ length xs * len
length_even_rows row len each [] = omega arith
length_even_rows row len each (x ∷ xs) =
    length-append (row x) (flat_map row xs) ∙ omega (arith, each x, length_even_rows row len each xs)

length_rows : {X : Type 0} (row : X → List ℤ) (len : X → ℕ) → ((x : X) → length (row x) ≡ len x) → (xs : List X) → length (flat_map row xs) ≡ sum_by len xs
length_rows row len each [] = refl
length_rows row len each (x ∷ xs) =
    length-append (row x) (flat_map row xs) ∙ omega (arith, each x, length_rows row len each xs, sum_by-cons len x xs)

length_rows_of_numbers : (row : ℤ → List ℤ) (n len : ℕ) → ((x : ℤ) → length (row x) ≡ len) → length (flat_map row (numbers n)) ≡ n * len
length_rows_of_numbers row n len each = length_even_rows row len each (numbers n) ∙ ap (λ k. k * len) (length_numbers n)

length_indices : (ds : List Dimension) → length (indices ds) ≡ part_of_cuts (map cut_of ds)
length_indices [] = refl
length_indices (d ∷ ds) =
    length_rows_of_numbers (λ i. map _ (indices ds)) (times d.part) (length (indices ds)) (λ i. length-map (indices ds) _)
    ∙ ap (λ k. times d.part * k) (length_indices ds)

-- ---- the constructors

pub signature_constructed : (constructor : Make) (m : Typemap) → IsCounted constructor → signature (constructed constructor (m ∷ [])) ≡ copies (copies_of constructor) (signature m)
unfolding contiguous vector hvector indexed hindexed indexed_block resized subarray
signature_constructed (Contiguous count old) m h = copies_so_many _ (times count) m (length_mapped _ (times count))
signature_constructed (Vector count len stride old) m h = copies_so_many _ (times count * times len) m (length_rows_of_numbers _ (times count) (times len) (λ i. length_mapped _ (times len)))
signature_constructed (Hvector count len stride old) m h = copies_so_many _ (times count * times len) m (length_rows_of_numbers _ (times count) (times len) (λ i. length_mapped _ (times len)))
signature_constructed (Indexed old blocks) m h =
    copies_so_many _ (sum_by (λ b. times b.length) blocks) m (length_rows (λ b. block_displacements (extent m) (times b.length) b.displacement) (λ b. times b.length) (λ b. length_mapped _ (times b.length)) blocks)
signature_constructed (Hindexed old blocks) m h =
    copies_so_many _ (sum_by (λ b. times b.length) blocks) m (length_rows (λ b. byte_block_displacements (extent m) (times b.length) b.displacement) (λ b. times b.length) (λ b. length_mapped _ (times b.length)) blocks)
signature_constructed (IndexedBlock len old ats) m h =
    copies_so_many _ (length ats * times len) m (length_even_rows (λ at. block_displacements (extent m) (times len) at) (times len) (λ at. length_mapped _ (times len)) ats)
signature_constructed (Struct members) m h = absurd h
signature_constructed (Resized old low e) m h = signature_with_bounds low _ m ∙ sym (copies_one (signature m))
signature_constructed (Subarray order old dimensions) m h =
    signature_with_bounds _ _ _
    ∙ copies_so_many _ (part_of_cuts (cuts_of order dimensions)) m (length-map (indices (slowest_first order dimensions)) _ ∙ length_indices (slowest_first order dimensions))

-- how many elements it makes
pub entry_count_constructed : (constructor : Make) (parts : Typemap) → IsCounted constructor → entry_count (constructed constructor (parts ∷ [])) ≡ copies_of constructor * (summary parts).entries
entry_count_constructed constructor parts h =
    rw (← length_signature (constructed constructor (parts ∷ [])), signature_constructed constructor parts h, length_copies (copies_of constructor) (signature parts), length_signature parts, entry_count_is parts)

-- ---- a struct

pub signature_members : (members : List Member) (old_maps : List Typemap) →
    signature (members_of members old_maps) ≡ flat_map (λ p. copies (times p.0.length) p.1) (zip members (map signature old_maps))
signature_members [] old_maps = signature_nil
signature_members (m ∷ ms) [] = signature_nil
signature_members (m ∷ ms) (old ∷ old_maps) =
    let one = byte_block_displacements (extent old) (times m.length) m.displacement in
    rw (signature_append (copies_at one old) (members_of ms old_maps), copies_so_many one (times m.length) old (length_mapped _ (times m.length)), signature_members ms old_maps)
