-- Copies of a typemap at the displacements of the constructors, by their summaries.
use Rattle.std.proofs.Common.{◌≡◌, ℕ, suc, zero, ◌+◌, ℤ, pos, ◌+ℤ◌, ◌*ℤ◌, List, [], ◌∷◌, ◌++◌, map, flat_map, fold, zip, Option, Some, None, refl, sym, ap, ◌∙◌, arith}
use Rattle.rma_typemap.proofs.Words.{range_with_len, map-append, append-nil, append_assoc, ints, Member, Block, ByteBlock, Dimension, Span, Blocks, Summary, Typemap, Entry, element, lower_mark, upper_mark, moved, copy_at, copies_at, elements, lower_marks, upper_marks, extent, numbers, times, contiguous, vector, hvector, indexed, hindexed, indexed_block, block_displacements, byte_block_displacements, members_of, without_marks, with_bounds, whole, indices, resized, subarray, summary, displaced, repeated, moved_span, moved_blocks, marked, part_of, extent_of, with_block, indexed_of, with_member, struct_of, block_in_extents, block_in_bytes, block_at, elements_of, lowers_of, uppers_of}
use Rattle.std.proofs.lemmas.List.Concat.{flat_map-append}
use Rattle.std.proofs.Math.IntN.{+ℤ_assoc, +ℤ_idl, zero-*ℤ}
use Rattle.rma_typemap.proofs.IntegerLemmas.{distribute, mul_assoc}
use Rattle.rma_typemap.proofs.BoundLemmas.{extent_is}
use Rattle.rma_typemap.proofs.SummaryLemmas.{same_summary, summary_append, summary_copy_at, summary_nil, one_before, one_alone}

-- ---- equal distances

next_displacement : (k : ℕ) (from stride : ℤ) → (from +ℤ pos k *ℤ stride) +ℤ stride ≡ from +ℤ pos (k + 1) *ℤ stride
next_displacement k from stride = omega (arith, ints)

first_displacement : (from stride : ℤ) → from +ℤ pos 0 *ℤ stride ≡ from
first_displacement from stride = omega (arith, ints)

-- ---- copies of copies

pub copies_at_append : (xs ys : List ℤ) (m : Typemap) → copies_at (xs ++ ys) m ≡ copies_at xs m ++ copies_at ys m
copies_at_append xs ys m = flat_map-append (λ by. copy_at by m) xs ys

copies_of_map : (f : ℤ → ℤ) (xs : List ℤ) (m : Typemap) → copies_at (map f xs) m ≡ flat_map (λ x. copy_at (f x) m) xs
copies_of_map f [] m = refl
copies_of_map f (x ∷ xs) m = ap (λ ys. copy_at (f x) m ++ ys) (copies_of_map f xs m)

copies_of_rows : (row : ℤ → List ℤ) (xs : List ℤ) (m : Typemap) → copies_at (flat_map row xs) m ≡ flat_map (λ x. copies_at (row x) m) xs
copies_of_rows row [] m = refl
copies_of_rows row (x ∷ xs) m = rw (copies_at_append (row x) (flat_map row xs) m, copies_of_rows row xs m)

moved_moved : (a b : ℤ) (e : Entry) → moved a (moved b e) ≡ moved (a +ℤ b) e
moved_moved a b (element basic at) = ap (element basic) (sym (+ℤ_assoc a b at))
moved_moved a b (lower_mark at) = ap lower_mark (sym (+ℤ_assoc a b at))
moved_moved a b (upper_mark at) = ap upper_mark (sym (+ℤ_assoc a b at))

copy_at_copy_at : (a b : ℤ) (m : Typemap) → copy_at a (copy_at b m) ≡ copy_at (a +ℤ b) m
copy_at_copy_at a b [] = refl
copy_at_copy_at a b (e ∷ m) = cc (moved_moved a b e, copy_at_copy_at a b m)

pub copies_at_moved : (by : ℤ) (xs : List ℤ) (m : Typemap) → copies_at (map (λ x. by +ℤ x) xs) m ≡ copy_at by (copies_at xs m)
copies_at_moved by [] m = refl
copies_at_moved by (x ∷ xs) m = cc (copies_at_moved by xs m, copy_at_copy_at by x m, map-append (moved by) (copy_at x m) (copies_at xs m))

-- copies, each a stride after the one before it
module _ (part : ℤ → Typemap) (a : Summary) (from stride : ℤ) (each : (i : ℕ) → summary (part (pos i)) ≡ displaced (from +ℤ pos i *ℤ stride) a) where
  copies_from : (n k : ℕ) → summary (flat_map part (map pos (range_with_len k n))) ≡ displaced (from +ℤ pos k *ℤ stride) (repeated n stride a)
  copies_from zero k = summary_nil
  copies_from (suc zero) k = rw (summary_append (part (pos k)) [], each k, summary_nil) (one_alone (from +ℤ pos k *ℤ stride) stride a)
  copies_from (suc (suc n)) k =
      rw (summary_append (part (pos k)) (flat_map part (map pos (range_with_len (k + 1) (suc n)))), each k, copies_from (suc n) (k + 1), ← next_displacement k from stride)
      (one_before n (from +ℤ pos k *ℤ stride) stride a)

  even_copies : (n : ℕ) → summary (flat_map part (numbers n)) ≡ displaced from (repeated n stride a)
  even_copies n = copies_from n 0 ∙ ap (λ x. displaced x (repeated n stride a)) (first_displacement from stride)

copies_by : (f : ℤ → ℤ) (from stride : ℤ) (n : ℕ) (old : Typemap) → ((i : ℕ) → f (pos i) ≡ from +ℤ pos i *ℤ stride) → summary (copies_at (map f (numbers n)) old) ≡ displaced from (repeated n stride (summary old))
copies_by f from stride n old h =
    rw (copies_of_map f (numbers n) old) (even_copies (λ i. copy_at (f i) old) (summary old) from stride (λ i. rw (summary_copy_at, h i)) n)

rows : (old : Typemap) (row : ℤ → List ℤ) (a : Summary) (from stride : ℤ) → ((i : ℕ) → summary (copies_at (row (pos i)) old) ≡ displaced (from +ℤ pos i *ℤ stride) a) → (n : ℕ) →
    summary (copies_at (flat_map row (numbers n)) old) ≡ displaced from (repeated n stride a)
rows old row a from stride each n = rw (copies_of_rows row (numbers n) old) (even_copies (λ i. copies_at (row i) old) a from stride each n)

-- ---- a move by nothing

moved_span_zero : (a : Option Span) → moved_span (pos 0) a ≡ a
moved_span_zero None = refl
moved_span_zero (Some a) = rw (+ℤ_idl a.low, +ℤ_idl a.high)

moved_blocks_zero : (a : Option Blocks) → moved_blocks (pos 0) a ≡ a
moved_blocks_zero None = refl
moved_blocks_zero (Some a) = rw (+ℤ_idl a.first, +ℤ_idl a.last)

pub displaced_zero : (a : Summary) → displaced (pos 0) a ≡ a
displaced_zero a = same_summary _ _ refl refl refl (moved_span_zero a.bytes) (moved_span_zero a.lower) (moved_span_zero a.upper) (moved_blocks_zero a.blocks)

-- ---- the constructors

pub summary_block : (n : ℕ) (at e : ℤ) (old : Typemap) → summary (copies_at (block_displacements e n at) old) ≡ displaced (at *ℤ e) (repeated n e (summary old))
summary_block n at e old = copies_by (λ j. (at +ℤ j) *ℤ e) (at *ℤ e) e n old (λ i. distribute at (pos i) e)

pub summary_byte_block : (n : ℕ) (at e : ℤ) (old : Typemap) → summary (copies_at (byte_block_displacements e n at) old) ≡ displaced at (repeated n e (summary old))
summary_byte_block n at e old = copies_by (λ j. at +ℤ j *ℤ e) at e n old (λ i. refl)

pub summary_contiguous : (n : ℕ) (old : Typemap) → summary (contiguous n old) ≡ repeated n (extent old) (summary old)
unfolding contiguous
summary_contiguous n old =
    copies_by (λ i. i *ℤ extent old) (pos 0) (extent old) n old (λ i. sym (+ℤ_idl (pos i *ℤ extent old))) ∙ displaced_zero (repeated n (extent old) (summary old))

row_displacement : (i : ℕ) (stride e : ℤ) → (pos i *ℤ stride) *ℤ e ≡ pos 0 +ℤ pos i *ℤ (stride *ℤ e)
row_displacement i stride e = mul_assoc (pos i) stride e ∙ sym (+ℤ_idl (pos i *ℤ (stride *ℤ e)))

pub summary_vector : (n len : ℕ) (stride : ℤ) (old : Typemap) → summary (vector n len stride old) ≡ repeated n (stride *ℤ extent old) (repeated len (extent old) (summary old))
unfolding vector
summary_vector n len stride old =
    rows old (λ i. block_displacements (extent old) len (i *ℤ stride)) (repeated len (extent old) (summary old)) (pos 0) (stride *ℤ extent old)
    (λ i. summary_block len (pos i *ℤ stride) (extent old) old ∙ ap (λ x. displaced x (repeated len (extent old) (summary old))) (row_displacement i stride (extent old))) n
    ∙ displaced_zero (repeated n (stride *ℤ extent old) (repeated len (extent old) (summary old)))

pub summary_hvector : (n len : ℕ) (stride : ℤ) (old : Typemap) → summary (hvector n len stride old) ≡ repeated n stride (repeated len (extent old) (summary old))
unfolding hvector
summary_hvector n len stride old =
    rows old (λ i. byte_block_displacements (extent old) len (i *ℤ stride)) (repeated len (extent old) (summary old)) (pos 0) stride
    (λ i. summary_byte_block len (pos i *ℤ stride) (extent old) old ∙ ap (λ x. displaced x (repeated len (extent old) (summary old))) (sym (+ℤ_idl (pos i *ℤ stride)))) n
    ∙ displaced_zero (repeated n stride (repeated len (extent old) (summary old)))

-- ---- other markers

pub no_marks : (m : Typemap) → (elements (without_marks m) ≡ elements m) × (lower_marks (without_marks m) ≡ []) × (upper_marks (without_marks m) ≡ [])
no_marks [] = (refl, refl, refl)
no_marks (element b at ∷ m) = let rest = no_marks m in (ap (λ es. (b, at) ∷ es) rest.0, rest.1, rest.2)
no_marks (lower_mark at ∷ m) = no_marks m
no_marks (upper_mark at ∷ m) = no_marks m

pub summary_with_bounds : (low high : ℤ) (m : Typemap) → summary (with_bounds low high m) ≡ marked low high (summary m)
unfolding summary
summary_with_bounds low high m =
    let marks = lower_mark low ∷ upper_mark high ∷ [] in
    let none = no_marks m in
    rw (flat_map-append elements_of (without_marks m) marks, flat_map-append lowers_of (without_marks m) marks, flat_map-append uppers_of (without_marks m) marks)
    (rw (append-nil (elements (without_marks m)), none.0, none.1, none.2))

pub summary_resized : (low e : ℤ) (old : Typemap) → summary (resized low e old) ≡ marked low (low +ℤ e) (summary old)
unfolding resized
summary_resized low e old = summary_with_bounds low (low +ℤ e) old

-- ---- subarray

map_flat_map : (f : ℤ → ℤ) (g : ℤ → List ℤ) (xs : List ℤ) → map f (flat_map g xs) ≡ flat_map (λ x. map f (g x)) xs
map_flat_map f g [] = refl
map_flat_map f g (x ∷ xs) = cc (map-append f (g x) (flat_map g xs), map_flat_map f g xs)

scaled_moved : (c e : ℤ) (xs : List ℤ) → map (λ p. p *ℤ e) (map (λ p. c +ℤ p) xs) ≡ map (λ x. c *ℤ e +ℤ x) (map (λ p. p *ℤ e) xs)
scaled_moved c e [] = refl
scaled_moved c e (x ∷ xs) = cc (distribute c x e, scaled_moved c e xs)

part_displacement : (start i w e : ℤ) → ((start +ℤ i) *ℤ w) *ℤ e ≡ start *ℤ (w *ℤ e) +ℤ i *ℤ (w *ℤ e)
part_displacement start i w e = mul_assoc (start +ℤ i) w e ∙ distribute start i (w *ℤ e)

-- a row of the part: the indices of the dimensions after it, moved by its index
abbrev row_of : ℤ → ℤ → List ℤ → ℤ → List ℤ
row_of start w ps i = map (λ p. (start +ℤ i) *ℤ w +ℤ p) ps

pub summary_indices : (e : ℤ) (old : Typemap) (ds : List Dimension) → summary (copies_at (map (λ p. p *ℤ e) (indices ds)) old) ≡ part_of e ds (summary old)
summary_indices e old [] = rw (append-nil (copy_at (pos 0 *ℤ e) old), summary_copy_at, zero-*ℤ e) (displaced_zero (summary old))
summary_indices e old (d ∷ ds) =
    let row = row_of d.start (whole ds) (indices ds) in
    ap (λ xs. summary (copies_at xs old)) (map_flat_map (λ p. p *ℤ e) row (numbers (times d.part)))
    ∙ rows old (λ i. map (λ p. p *ℤ e) (row i)) (part_of e ds (summary old)) (d.start *ℤ (whole ds *ℤ e)) (whole ds *ℤ e)
    (λ i.
    ap (λ xs. summary (copies_at xs old)) (scaled_moved ((d.start +ℤ pos i) *ℤ whole ds) e (indices ds))
    ∙ rw (copies_at_moved (((d.start +ℤ pos i) *ℤ whole ds) *ℤ e) (map (λ p. p *ℤ e) (indices ds)) old, summary_copy_at, part_displacement d.start (pos i) (whole ds) e, summary_indices e old ds))
    (times d.part)

pub summary_subarray : (ds : List Dimension) (old : Typemap) → summary (subarray ds old) ≡ marked (pos 0) (whole ds *ℤ extent old) (part_of (extent old) ds (summary old))
unfolding subarray
summary_subarray ds old =
    summary_with_bounds (pos 0) (whole ds *ℤ extent old) (copies_at (map (λ p. p *ℤ extent old) (indices ds)) old)
    ∙ ap (marked (pos 0) (whole ds *ℤ extent old)) (summary_indices (extent old) old ds)

-- ---- blocks one after another

-- a list of blocks, each as a number of copies from a displacement in bytes
module _ {B : Type 0} (old : Typemap) (at : B → List ℤ) (block : B → ℕ × ℤ)
    (each : (b : B) → summary (copies_at (at b) old) ≡ displaced (block b).1 (repeated (block b).0 (extent old) (summary old))) where
  blocks_after : (done : Typemap) (bs : List B) → summary (done ++ copies_at (flat_map at bs) old) ≡ fold (with_block (summary old)) (summary done) (map block bs)
  blocks_after done [] = ap summary (append-nil done)
  blocks_after done (b ∷ bs) =
      rw (copies_at_append (at b) (flat_map at bs) old, ← append_assoc done (copies_at (at b) old) (copies_at (flat_map at bs) old), blocks_after (done ++ copies_at (at b) old) bs, summary_append, each b, extent_is old)

  pub summary_blocks : (bs : List B) → summary (copies_at (flat_map at bs) old) ≡ indexed_of (summary old) (map block bs)
  summary_blocks bs = blocks_after [] bs ∙ ap (λ o. fold (with_block (summary old)) o (map block bs)) summary_nil

pub summary_indexed : (bs : List Block) (old : Typemap) → summary (indexed bs old) ≡ indexed_of (summary old) (map (block_in_extents (extent_of (summary old))) bs)
unfolding indexed
summary_indexed bs old =
    summary_blocks old (λ b. block_displacements (extent old) (times b.length) b.displacement) (block_in_extents (extent old)) (λ b. summary_block (times b.length) b.displacement (extent old) old) bs
    ∙ ap (λ e. indexed_of (summary old) (map (block_in_extents e) bs)) (extent_is old)

pub summary_hindexed : (bs : List ByteBlock) (old : Typemap) → summary (hindexed bs old) ≡ indexed_of (summary old) (map block_in_bytes bs)
unfolding hindexed
summary_hindexed bs old =
    summary_blocks old (λ b. byte_block_displacements (extent old) (times b.length) b.displacement) block_in_bytes (λ b. summary_byte_block (times b.length) b.displacement (extent old) old) bs

pub summary_indexed_block : (len : ℕ) (ats : List ℤ) (old : Typemap) → summary (indexed_block len ats old) ≡ indexed_of (summary old) (map (block_at (extent_of (summary old)) len) ats)
unfolding indexed_block
summary_indexed_block len ats old =
    summary_blocks old (λ at. block_displacements (extent old) len at) (block_at (extent old) len) (λ at. summary_block len at (extent old) old) ats
    ∙ ap (λ e. indexed_of (summary old) (map (block_at e len) ats)) (extent_is old)

-- ---- members one after another

members_after : (done : Typemap) (ms : List Member) (old_maps : List Typemap) → summary (done ++ members_of ms old_maps) ≡ fold with_member (summary done) (zip ms (map summary old_maps))
members_after done [] old_maps = ap summary (append-nil done)
members_after done (m ∷ ms) [] = ap summary (append-nil done)
members_after done (m ∷ ms) (old ∷ old_maps) =
    let one = copies_at (byte_block_displacements (extent old) (times m.length) m.displacement) old in
    rw (← append_assoc done one (members_of ms old_maps), members_after (done ++ one) ms old_maps, summary_append, summary_byte_block, extent_is old)

pub summary_members : (ms : List Member) (old_maps : List Typemap) → summary (members_of ms old_maps) ≡ struct_of (zip ms (map summary old_maps))
summary_members ms old_maps = members_after [] ms old_maps ∙ ap (λ o. fold with_member o (zip ms (map summary old_maps))) summary_nil
