-- The steps of the constructors write the bytes of their datatypes.
use Rattle.std.proofs.Common.{◌≡◌, ℕ, zero, suc, ◌+◌, ◌-◌, ℤ, pos, negsuc, ◌+ℤ◌, ◌*ℤ◌, Bool, true, false, cond, ◌&&◌, List, [], ◌∷◌, ◌++◌, map, flat_map, reverse, length, refl, sym, ap, ◌∙◌, arith}
use Rattle.rma_layout.proofs.Words.{ints, append-nil, append_assoc, map-append, Basic, basic_size, Typemap, elements, start_of, span, bytes_in, moved, copies, typemap_bytes, Step, Again, row_bytes, step_bytes, after_step, after_steps, a_row, rows, has_part, start_of_part, copies_along, single_steps, member_steps, steps_over, steps_by, int_lt}
use Rattle.rma_layout.proofs.BytesLemmas.{moved_nil, moved_append, moved_moved, moved_zero, moved_span, copies_zero, copies_suc, copies_one, moved_copies, copies_of_moved, copies_nil}
use Rattle.rma_datatype.specs.declared.make.Block.{Block}
use Rattle.rma_datatype.specs.declared.make.ByteBlock.{ByteBlock}
use Rattle.rma_datatype.specs.declared.make.Dimension.{Dimension}
use Rattle.rma_datatype.specs.declared.make.Member.{Member}
use Rattle.rma_datatype.specs.declared.make.Order.{Order}
use Rattle.rma_datatype.specs.declared.make.Order.TheVariants.{LastFastest, FirstFastest}
use Rattle.rma_datatype.specs.declared.make.Make.{Make}
use Rattle.rma_datatype.specs.declared.make.Make.TheVariants.{Contiguous, Vector, Hvector, Indexed, Hindexed, IndexedBlock, Struct, Resized, Subarray}
use Rattle.rma_typemap.proofs.Words.{range_with_len, copy_at, copies_at, extent, numbers, times, contiguous, vector, hvector, indexed, hindexed, indexed_block, resized, subarray, block_displacements, byte_block_displacements, members_of, without_marks, with_bounds, whole, indices, slowest_first, constructed, lower_mark, upper_mark, fold_push}
use Rattle.rma_typemap.proofs.BlocksLemmas.{moved_element}
use Rattle.rma_typemap.proofs.SummaryLemmas.{elements_append, parts_copy_at}
use Rattle.rma_typemap.proofs.CopyLemmas.{no_marks}
use Rattle.rma_typemap.proofs.IntegerLemmas.{distribute, mul_assoc}
use Rattle.std.proofs.lemmas.List.Concat.{flat_map-append}
use Rattle.rma_type.proofs.Words.{typemap_in, old_names}
use Rattle.rma_type.proofs.CheckLemmas.{HasOneOld}
use Rattle.std.proofs.lemmas.List.Folds.{list_all-append}
use Rattle.std.proofs.lemmas.List.{reverse-append}
use Rattle.rma_type.specs.declared.id.TypeId.{TypeId}

-- ---- the bytes of typemaps

pub bytes_in_append : (es fs : List (Basic × ℤ)) → bytes_in (es ++ fs) ≡ bytes_in es ++ bytes_in fs
unfolding bytes_in
bytes_in_append es fs = flat_map-append (λ (e : Basic × ℤ). span (start_of e) (basic_size e.0)) es fs

pub bytes_append : (m n : Typemap) → typemap_bytes (m ++ n) ≡ typemap_bytes m ++ typemap_bytes n
bytes_append m n = ap bytes_in (elements_append m n) ∙ bytes_in_append (elements m) (elements n)

bytes_in_moved : (by : ℤ) (es : List (Basic × ℤ)) → bytes_in (map (moved_element by) es) ≡ moved by (bytes_in es)
unfolding bytes_in
bytes_in_moved by [] = sym (moved_nil by)
bytes_in_moved by (e ∷ es) =
    let rest = flat_map (λ (x : Basic × ℤ). span (start_of x) (basic_size x.0)) es in
    rw (moved_append by (span (start_of e) (basic_size e.0)) rest, moved_span by (start_of e) (basic_size e.0)) (ap (λ xs. span (by +ℤ start_of e) (basic_size e.0) ++ xs) (bytes_in_moved by es))

pub bytes_copy_at : (by : ℤ) (m : Typemap) → typemap_bytes (copy_at by m) ≡ moved by (typemap_bytes m)
bytes_copy_at by m = ap bytes_in (parts_copy_at by m).0 ∙ bytes_in_moved by (elements m)

bytes_none : typemap_bytes [] ≡ []
unfolding bytes_in
bytes_none = refl

bytes_with_bounds : (low high : ℤ) (m : Typemap) → typemap_bytes (with_bounds low high m) ≡ typemap_bytes m
bytes_with_bounds low high m =
    bytes_append (without_marks m) (lower_mark low ∷ upper_mark high ∷ []) ∙ ap (λ xs. typemap_bytes (without_marks m) ++ xs) bytes_none
    ∙ append-nil (typemap_bytes (without_marks m)) ∙ ap bytes_in (no_marks m).0

-- ---- copies at displacements

-- the copies of bytes at displacements
abbrev pub at_all : List ℤ → List ℤ → List ℤ
at_all [] bs = []
at_all (x ∷ xs) bs = moved x bs ++ at_all xs bs

pub bytes_at_all : (xs : List ℤ) (m : Typemap) → typemap_bytes (copies_at xs m) ≡ at_all xs (typemap_bytes m)
bytes_at_all [] m = bytes_none
bytes_at_all (x ∷ xs) m = bytes_append (copy_at x m) (copies_at xs m) ∙ ap (λ ys. ys ++ typemap_bytes (copies_at xs m)) (bytes_copy_at x m) ∙ ap (λ ys. moved x (typemap_bytes m) ++ ys) (bytes_at_all xs m)

at_all_append : (xs ys : List ℤ) (bs : List ℤ) → at_all (xs ++ ys) bs ≡ at_all xs bs ++ at_all ys bs
at_all_append [] ys bs = refl
at_all_append (x ∷ xs) ys bs = ap (λ zs. moved x bs ++ zs) (at_all_append xs ys bs) ∙ sym (append_assoc (moved x bs) (at_all xs bs) (at_all ys bs))

at_all_rows : {X : Type 0} (r : X → List ℤ) (xs : List X) (bs : List ℤ) → at_all (flat_map r xs) bs ≡ flat_map (λ x. at_all (r x) bs) xs
at_all_rows r [] bs = refl
at_all_rows r (x ∷ xs) bs = at_all_append (r x) (flat_map r xs) bs ∙ ap (λ zs. at_all (r x) bs ++ zs) (at_all_rows r xs bs)

at_all_map : {X : Type 0} (f : X → ℤ) (xs : List X) (bs : List ℤ) → at_all (map f xs) bs ≡ flat_map (λ x. moved (f x) bs) xs
at_all_map f [] bs = refl
at_all_map f (x ∷ xs) bs = ap (λ zs. moved (f x) bs ++ zs) (at_all_map f xs bs)

next_displacement : (k : ℕ) (from stride : ℤ) → (from +ℤ pos k *ℤ stride) +ℤ stride ≡ from +ℤ pos (k + 1) *ℤ stride
next_displacement k from stride = omega (arith, ints)

first_displacement : (from stride : ℤ) → from +ℤ pos 0 *ℤ stride ≡ from
first_displacement from stride = omega (arith, ints)

-- parts, each a stride after the one before it
module _ (part : ℤ → List ℤ) (bs : List ℤ) (from stride : ℤ) (each : (i : ℕ) → part (pos i) ≡ moved (from +ℤ pos i *ℤ stride) bs) where
  even_from : (n k : ℕ) → flat_map part (map pos (range_with_len k n)) ≡ copies n (from +ℤ pos k *ℤ stride) stride bs
  even_from zero k = sym (copies_zero (from +ℤ pos k *ℤ stride) stride bs)
  even_from (suc n) k =
      ap (λ xs. xs ++ flat_map part (map pos (range_with_len (k + 1) n))) (each k)
      ∙ ap (λ xs. moved (from +ℤ pos k *ℤ stride) bs ++ xs) (even_from n (k + 1) ∙ ap (λ x. copies n x stride bs) (sym (next_displacement k from stride)))
      ∙ sym (copies_suc n (from +ℤ pos k *ℤ stride) stride bs)

  even : (n : ℕ) → flat_map part (numbers n) ≡ copies n from stride bs
  even n = even_from n 0 ∙ ap (λ x. copies n x stride bs) (first_displacement from stride)

pub even_copies : (f : ℤ → ℤ) (from stride : ℤ) (n : ℕ) (bs : List ℤ) → ((i : ℕ) → f (pos i) ≡ from +ℤ pos i *ℤ stride) → at_all (map f (numbers n)) bs ≡ copies n from stride bs
even_copies f from stride n bs h = at_all_map f (numbers n) bs ∙ even (λ i. moved (f i) bs) bs from stride (λ i. ap (λ x. moved x bs) (h i)) n

block_copies : (n : ℕ) (at e : ℤ) (bs : List ℤ) → at_all (block_displacements e n at) bs ≡ copies n (at *ℤ e) e bs
block_copies n at e bs = even_copies (λ j. (at +ℤ j) *ℤ e) (at *ℤ e) e n bs (λ i. distribute at (pos i) e)

byte_block_copies : (n : ℕ) (at e : ℤ) (bs : List ℤ) → at_all (byte_block_displacements e n at) bs ≡ copies n at e bs
byte_block_copies n at e bs = even_copies (λ j. at +ℤ j *ℤ e) at e n bs (λ i. refl)

assoc : (a b c : ℤ) → a +ℤ (b +ℤ c) ≡ (a +ℤ b) +ℤ c
assoc a b c = omega (arith, ints)

idl : (x : ℤ) → pos 0 +ℤ x ≡ x
idl x = omega (arith, ints)

idr : (x : ℤ) → x +ℤ pos 0 ≡ x
idr x = omega (arith, ints)

-- ---- steps

pub after_none : (maps : List Typemap) (by : ℤ) (seen : List ℤ) → after_steps maps by seen [] ≡ seen
unfolding after_steps
after_none maps by seen = refl

pub after_more : (maps : List Typemap) (by : ℤ) (seen : List ℤ) (step : Step) (steps : List Step) → after_steps maps by seen (step ∷ steps) ≡ after_steps maps by (seen ++ step_bytes maps by seen step) steps
unfolding after_steps
after_more maps by seen step steps = refl

after_push : (maps : List Typemap) (by : ℤ) (seen : List ℤ) (steps : List Step) (step : Step) →
    after_steps maps by seen (steps ++ step ∷ []) ≡ after_step maps by (after_steps maps by seen steps) step
unfolding after_steps
after_push maps by seen steps step = fold_push (after_step maps by) seen steps step

-- what is there, and the same so often more
again_bytes : (n : ℕ) (by at stride : ℤ) (bs : List ℤ) → moved (by +ℤ at) bs ++ copies n stride stride (moved (by +ℤ at) bs) ≡ moved by (copies (suc n) at stride bs)
again_bytes n by at stride bs =
    let later : stride +ℤ (by +ℤ at) ≡ by +ℤ (at +ℤ stride) = omega (arith, ints) in
    ap (λ xs. moved (by +ℤ at) bs ++ xs) (copies_of_moved n stride stride (by +ℤ at) bs ∙ ap (λ x. copies n x stride bs) later ∙ sym (moved_copies n by (at +ℤ stride) stride bs))
    ∙ ap (λ xs. xs ++ moved by (copies n (at +ℤ stride) stride bs)) (sym (moved_moved by at bs)) ∙ sym (moved_append by (moved at bs) (copies n (at +ℤ stride) stride bs))
    ∙ ap (moved by) (sym (copies_suc n at stride bs))

module _ (maps : List Typemap) (by : ℤ) (old : TypeId) (m : Typemap) (is : typemap_in maps old ≡ m) where
  one_row : (n : ℕ) (at : ℤ) → after_steps maps by [] (a_row old n at ∷ []) ≡ moved by (copies n at (extent m) (typemap_bytes m))
  one_row n at =
      after_more maps by [] (a_row old n at) [] ∙ after_none maps by (row_bytes maps old n (by +ℤ at))
      ∙ ap (λ x. copies n (by +ℤ at) (extent x) (typemap_bytes x)) is ∙ sym (moved_copies n by at (extent m) (typemap_bytes m))

  rows_bytes : (n len : ℕ) (stride : ℤ) → after_steps maps by [] (rows n old len stride) ≡ moved by (copies n (pos 0) stride (copies len (pos 0) (extent m) (typemap_bytes m)))
  rows_bytes zero len stride =
      let one = copies len (pos 0) (extent m) (typemap_bytes m) in
      after_more maps by [] (a_row old 0 (pos 0)) (Again 0 stride ∷ []) ∙ ap (λ xs. after_steps maps by xs (Again 0 stride ∷ [])) (copies_zero (by +ℤ pos 0) (extent (typemap_in maps old)) (typemap_bytes (typemap_in maps old)))
      ∙ after_more maps by [] (Again 0 stride) [] ∙ after_none maps by (copies 0 stride stride []) ∙ copies_zero stride stride [] ∙ sym (moved_nil by) ∙ ap (moved by) (sym (copies_zero (pos 0) stride one))
  rows_bytes (suc n) len stride =
      let one = copies len (pos 0) (extent m) (typemap_bytes m) in
      let first : row_bytes maps old len (by +ℤ pos 0) ≡ moved (by +ℤ pos 0) one =
      ap (λ x. copies len (by +ℤ pos 0) (extent x) (typemap_bytes x)) is ∙ ap (λ x. copies len x (extent m) (typemap_bytes m)) (sym (idr (by +ℤ pos 0))) ∙ sym (moved_copies len (by +ℤ pos 0) (pos 0) (extent m) (typemap_bytes m)) in
      after_more maps by [] (a_row old len (pos 0)) (Again n stride ∷ []) ∙ ap (λ xs. after_steps maps by xs (Again n stride ∷ [])) first
      ∙ after_more maps by (moved (by +ℤ pos 0) one) (Again n stride) [] ∙ after_none maps by (moved (by +ℤ pos 0) one ++ copies n stride stride (moved (by +ℤ pos 0) one))
      ∙ again_bytes n by (pos 0) stride one

  -- a list of rows
  module _ {B : Type 0} (count : B → ℕ) (at : B → ℤ) (ds : B → List ℤ) (each : (b : B) → at_all (ds b) (typemap_bytes m) ≡ copies (count b) (at b) (extent m) (typemap_bytes m)) where
    list_bytes : (seen : List ℤ) (xs : List B) → after_steps maps by seen (map (λ b. a_row old (count b) (at b)) xs) ≡ seen ++ moved by (at_all (flat_map ds xs) (typemap_bytes m))
    list_bytes seen [] = after_none maps by seen ∙ sym (append-nil seen) ∙ ap (λ ys. seen ++ ys) (sym (moved_nil by))
    list_bytes seen (b ∷ xs) =
        let bs = typemap_bytes m in
        let here = row_bytes maps old (count b) (by +ℤ at b) in
        let all : moved by (at_all (ds b) bs) ≡ here =
        ap (moved by) (each b) ∙ moved_copies (count b) by (at b) (extent m) bs ∙ ap (λ x. copies (count b) (by +ℤ at b) (extent x) (typemap_bytes x)) (sym is) in
        after_more maps by seen (a_row old (count b) (at b)) (map (λ c. a_row old (count c) (at c)) xs) ∙ list_bytes (seen ++ here) xs
        ∙ append_assoc seen here (moved by (at_all (flat_map ds xs) bs))
        ∙ ap (λ ys. seen ++ (ys ++ moved by (at_all (flat_map ds xs) bs))) (sym all)
        ∙ ap (λ ys. seen ++ ys) (sym (moved_append by (at_all (ds b) bs) (at_all (flat_map ds xs) bs)) ∙ ap (moved by) (sym (at_all_append (ds b) (flat_map ds xs) bs)))

-- ---- the part of an array

map_flat_map : (f : ℤ → ℤ) (g : ℤ → List ℤ) (xs : List ℤ) → map f (flat_map g xs) ≡ flat_map (λ x. map f (g x)) xs
map_flat_map f g [] = refl
map_flat_map f g (x ∷ xs) = map-append f (g x) (flat_map g xs) ∙ ap (λ ys. map f (g x) ++ ys) (map_flat_map f g xs)

at_all_scaled : (c e : ℤ) (xs : List ℤ) (bs : List ℤ) → at_all (map (λ p. p *ℤ e) (map (λ p. c +ℤ p) xs)) bs ≡ moved (c *ℤ e) (at_all (map (λ p. p *ℤ e) xs) bs)
at_all_scaled c e [] bs = sym (moved_nil (c *ℤ e))
at_all_scaled c e (x ∷ xs) bs =
    let rest = at_all (map (λ p. p *ℤ e) xs) bs in
    ap (λ y. moved y bs ++ at_all (map (λ p. p *ℤ e) (map (λ p. c +ℤ p) xs)) bs) (distribute c x e) ∙ ap (λ ys. moved (c *ℤ e +ℤ x *ℤ e) bs ++ ys) (at_all_scaled c e xs bs)
    ∙ ap (λ ys. ys ++ moved (c *ℤ e) rest) (sym (moved_moved (c *ℤ e) (x *ℤ e) bs)) ∙ sym (moved_append (c *ℤ e) (moved (x *ℤ e) bs) rest)

part_displacement : (start i w e : ℤ) → ((start +ℤ i) *ℤ w) *ℤ e ≡ start *ℤ (w *ℤ e) +ℤ i *ℤ (w *ℤ e)
part_displacement start i w e = mul_assoc (start +ℤ i) w e ∙ distribute start i (w *ℤ e)

abbrev part_bytes : ℤ → List Dimension → List ℤ → List ℤ
part_bytes e ds bs = at_all (map (λ p. p *ℤ e) (indices ds)) bs

part_more : (e : ℤ) (d : Dimension) (ds : List Dimension) (bs : List ℤ) → part_bytes e (d ∷ ds) bs ≡ copies (times d.part) (d.start *ℤ (whole ds *ℤ e)) (whole ds *ℤ e) (part_bytes e ds bs)
part_more e d ds bs =
    let w = whole ds in
    let r : ℤ → List ℤ = λ i. map (λ p. (d.start +ℤ i) *ℤ w +ℤ p) (indices ds) in
    ap (λ xs. at_all xs bs) (map_flat_map (λ p. p *ℤ e) r (numbers (times d.part))) ∙ at_all_rows (λ i. map (λ p. p *ℤ e) (r i)) (numbers (times d.part)) bs
    ∙ even (λ i. at_all (map (λ p. p *ℤ e) (r i)) bs) (part_bytes e ds bs) (d.start *ℤ (w *ℤ e)) (w *ℤ e)
    (λ i. at_all_scaled ((d.start +ℤ pos i) *ℤ w) e (indices ds) bs ∙ ap (λ x. moved x (part_bytes e ds bs)) (part_displacement d.start (pos i) w e)) (times d.part)

module _ (maps : List Typemap) (from e : ℤ) (bs : List ℤ) where
  along_none : (ds : List Dimension) → after_steps maps from [] (copies_along e ds) ≡ []
  along_none [] = after_none maps from []
  along_none (d ∷ ds) =
      let s = whole ds *ℤ e in
      after_push maps from [] (copies_along e ds) (Again (times d.part - 1) s) ∙ ap (λ xs. xs ++ copies (times d.part - 1) s s xs) (along_none ds) ∙ copies_nil (times d.part - 1) s s

  -- the first element of the part, where it has one
  abbrev first_of_part : ℤ → List Dimension → List ℤ
  first_of_part by ds = copies (cond (has_part ds) 1 0) (by +ℤ start_of_part e ds) e bs

  count_positive : (x : ℤ) → int_lt (pos 0) x ≡ true → (n : ℕ) × (times x ≡ suc n)
  count_positive (pos zero) h = absurd (cc)
  count_positive (pos (suc n)) h = (n, refl)
  count_positive (negsuc n) h = absurd (cc)

  count_none : (x : ℤ) → int_lt (pos 0) x ≡ false → times x ≡ 0
  count_none (pos zero) h = refl
  count_none (pos (suc n)) h = absurd (omega (arith, ints))
  count_none (negsuc n) h = refl

  abbrev Along : List Dimension → Type 0
  Along ds = (by : ℤ) → after_steps maps from (first_of_part by ds) (copies_along e ds) ≡ moved by (part_bytes e ds bs)

  module _ (d : Dimension) (ds : List Dimension) (by : ℤ) where
    along_empty : int_lt (pos 0) d.part ≡ false → after_steps maps from (first_of_part by (d ∷ ds)) (copies_along e (d ∷ ds)) ≡ moved by (part_bytes e (d ∷ ds) bs)
    along_empty h =
        let s = whole ds *ℤ e in
        let at = by +ℤ start_of_part e (d ∷ ds) in
        ap (λ xs. after_steps maps from xs (copies_along e (d ∷ ds))) (ap (λ t. copies (cond (t && has_part ds) 1 0) at e bs) h ∙ copies_zero at e bs)
        ∙ along_none (d ∷ ds) ∙ sym (moved_nil by) ∙ ap (moved by) (sym (copies_zero (d.start *ℤ s) s (part_bytes e ds bs)))
        ∙ ap (λ n. moved by (copies n (d.start *ℤ s) s (part_bytes e ds bs))) (sym (count_none d.part h)) ∙ ap (moved by) (sym (part_more e d ds bs))

    along_some : Along ds → int_lt (pos 0) d.part ≡ true → after_steps maps from (first_of_part by (d ∷ ds)) (copies_along e (d ∷ ds)) ≡ moved by (part_bytes e (d ∷ ds) bs)
    along_some rest h =
        let s = whole ds *ℤ e in
        let start = d.start *ℤ s in
        let part = part_bytes e ds bs in
        let count = count_positive d.part h in
        let less : times d.part - 1 ≡ count.0 = omega (arith, count.1) in
        let place = assoc by start (start_of_part e ds) in
        let seen = moved (by +ℤ start) part in
        ap (λ xs. after_steps maps from xs (copies_along e (d ∷ ds)))
        (ap (λ t. copies (cond (t && has_part ds) 1 0) (by +ℤ start_of_part e (d ∷ ds)) e bs) h ∙ ap (λ x. copies (cond (has_part ds) 1 0) x e bs) place)
        ∙ after_push maps from (first_of_part (by +ℤ start) ds) (copies_along e ds) (Again (times d.part - 1) s)
        ∙ ap (λ xs. xs ++ copies (times d.part - 1) s s xs) (rest (by +ℤ start)) ∙ ap (λ n. seen ++ copies n s s seen) less
        ∙ again_bytes count.0 by start s part ∙ ap (λ n. moved by (copies n start s part)) (sym count.1) ∙ ap (moved by) (sym (part_more e d ds bs))

  along_bytes : (ds : List Dimension) → Along ds
  along_bytes [] by =
      let same : by +ℤ pos 0 ≡ by +ℤ pos 0 *ℤ e = omega (arith, ints) in
      after_none maps from (first_of_part by []) ∙ copies_one (by +ℤ pos 0) e bs ∙ ap (λ x. moved x bs) same ∙ sym (moved_moved by (pos 0 *ℤ e) bs)
      ∙ ap (moved by) (sym (append-nil (moved (pos 0 *ℤ e) bs)))
  along_bytes (d ∷ ds) by =
      let rest = along_bytes ds in
      let P : Bool → Type 0 = λ t. int_lt (pos 0) d.part ≡ t → after_steps maps from (first_of_part by (d ∷ ds)) (copies_along e (d ∷ ds)) ≡ moved by (part_bytes e (d ∷ ds) bs) in
      (elim (int_lt (pos 0) d.part) as P [ true ↦ along_some d ds by rest | false ↦ along_empty d ds by ]) refl

-- ---- the order of dimensions

and_swap : (a b : Bool) → (a && (b && true)) ≡ (b && a)
and_swap true true = refl
and_swap true false = refl
and_swap false true = refl
and_swap false false = refl

has_part_reversed : (ds : List Dimension) → has_part (reverse ds) ≡ has_part ds
has_part_reversed [] = refl
has_part_reversed (d ∷ ds) =
    ap has_part (reverse-append (d ∷ []) ds) ∙ list_all-append (λ (x : Dimension). int_lt (pos 0) x.part) (reverse ds) (d ∷ [])
    ∙ and_swap (has_part (reverse ds)) (int_lt (pos 0) d.part) ∙ ap (λ t. int_lt (pos 0) d.part && t) (has_part_reversed ds)

has_part_slowest : (order : Order) (ds : List Dimension) → has_part (slowest_first order ds) ≡ has_part ds
has_part_slowest LastFastest ds = refl
has_part_slowest FirstFastest ds = has_part_reversed ds

-- ---- the constructors

row_moved : (e : ℤ) (bs : List ℤ) (i : ℕ) (s x : ℤ) (len : ℕ) → x ≡ pos i *ℤ s → copies len x e bs ≡ moved (pos 0 +ℤ pos i *ℤ s) (copies len (pos 0) e bs)
row_moved e bs i s x len same =
    ap (λ y. copies len y e bs) (same ∙ sym (idl (pos i *ℤ s)) ∙ sym (idr (pos 0 +ℤ pos i *ℤ s))) ∙ sym (moved_copies len (pos 0 +ℤ pos i *ℤ s) (pos 0) e bs)

module _ (maps : List Typemap) (by : ℤ) (old : TypeId) where
  abbrev old_map : Typemap
  old_map = typemap_in maps old

  abbrev old_bytes : List ℤ
  old_bytes = typemap_bytes old_map

  single_bytes : (constructor : Make) → HasOneOld constructor → after_steps maps by [] (single_steps constructor old (extent old_map)) ≡ moved by (typemap_bytes (constructed constructor (old_map ∷ [])))
  unfolding contiguous vector hvector indexed hindexed indexed_block resized subarray
  single_bytes (Contiguous count name) one =
      one_row maps by old old_map refl (times count) (pos 0)
      ∙ ap (moved by) (sym (bytes_at_all (map (λ i. i *ℤ extent old_map) (numbers (times count))) old_map
      ∙ even_copies (λ i. i *ℤ extent old_map) (pos 0) (extent old_map) (times count) old_bytes (λ i. sym (idl (pos i *ℤ extent old_map)))))
  single_bytes (Vector count len stride name) one =
      rows_bytes maps by old old_map refl (times count) (times len) (stride *ℤ extent old_map)
      ∙ ap (moved by) (sym (bytes_at_all _ old_map ∙ at_all_rows (λ i. block_displacements (extent old_map) (times len) (i *ℤ stride)) (numbers (times count)) old_bytes
      ∙ even (λ i. at_all (block_displacements (extent old_map) (times len) (i *ℤ stride)) old_bytes) (copies (times len) (pos 0) (extent old_map) old_bytes) (pos 0) (stride *ℤ extent old_map)
      (λ i. block_copies (times len) (pos i *ℤ stride) (extent old_map) old_bytes ∙ row_moved (extent old_map) old_bytes i (stride *ℤ extent old_map) ((pos i *ℤ stride) *ℤ extent old_map) (times len) (mul_assoc (pos i) stride (extent old_map))) (times count)))
  single_bytes (Hvector count len stride name) one =
      rows_bytes maps by old old_map refl (times count) (times len) stride
      ∙ ap (moved by) (sym (bytes_at_all _ old_map ∙ at_all_rows (λ i. byte_block_displacements (extent old_map) (times len) (i *ℤ stride)) (numbers (times count)) old_bytes
      ∙ even (λ i. at_all (byte_block_displacements (extent old_map) (times len) (i *ℤ stride)) old_bytes) (copies (times len) (pos 0) (extent old_map) old_bytes) (pos 0) stride
      (λ i. byte_block_copies (times len) (pos i *ℤ stride) (extent old_map) old_bytes ∙ row_moved (extent old_map) old_bytes i stride (pos i *ℤ stride) (times len) refl) (times count)))
  single_bytes (Indexed name blocks) one =
      list_bytes maps by old old_map refl (λ (b : Block). times b.length) (λ (b : Block). b.displacement *ℤ extent old_map) (λ (b : Block). block_displacements (extent old_map) (times b.length) b.displacement)
      (λ b. block_copies (times b.length) b.displacement (extent old_map) old_bytes) [] blocks
      ∙ ap (moved by) (sym (bytes_at_all _ old_map))
  single_bytes (Hindexed name blocks) one =
      list_bytes maps by old old_map refl (λ (b : ByteBlock). times b.length) (λ (b : ByteBlock). b.displacement) (λ (b : ByteBlock). byte_block_displacements (extent old_map) (times b.length) b.displacement)
      (λ b. byte_block_copies (times b.length) b.displacement (extent old_map) old_bytes) [] blocks
      ∙ ap (moved by) (sym (bytes_at_all _ old_map))
  single_bytes (IndexedBlock len name ats) one =
      list_bytes maps by old old_map refl (λ (at : ℤ). times len) (λ (at : ℤ). at *ℤ extent old_map) (λ (at : ℤ). block_displacements (extent old_map) (times len) at)
      (λ at. block_copies (times len) at (extent old_map) old_bytes) [] ats
      ∙ ap (moved by) (sym (bytes_at_all _ old_map))
  single_bytes (Struct members) one = absurd one
  single_bytes (Resized name low e) one =
      one_row maps by old old_map refl 1 (pos 0) ∙ ap (moved by) (copies_one (pos 0) (extent old_map) old_bytes ∙ moved_zero old_bytes ∙ sym (bytes_with_bounds low (low +ℤ e) old_map))
  single_bytes (Subarray order name ds) one =
      let e = extent old_map in
      let sorted = slowest_first order ds in
      after_more maps by [] (a_row old (cond (has_part ds) 1 0) (start_of_part e sorted)) (copies_along e sorted)
      ∙ ap (λ t. after_steps maps by (copies (cond t 1 0) (by +ℤ start_of_part e sorted) e old_bytes) (copies_along e sorted)) (sym (has_part_slowest order ds))
      ∙ along_bytes maps by e old_bytes sorted by
      ∙ ap (moved by) (sym (bytes_with_bounds (pos 0) (whole sorted *ℤ e) (copies_at (map (λ p. p *ℤ e) (indices sorted)) old_map) ∙ bytes_at_all (map (λ p. p *ℤ e) (indices sorted)) old_map))

first_only : (constructor : Make) → HasOneOld constructor → (m : Typemap) (ms : List Typemap) → constructed constructor (m ∷ []) ≡ constructed constructor (m ∷ ms)
first_only (Struct members) one m ms = absurd one
first_only _ one m ms = refl

steps_over_one : (maps : List Typemap) (by : ℤ) (constructor : Make) → HasOneOld constructor → (olds : List TypeId) → length olds ≡ 1 →
    after_steps maps by [] (steps_over maps constructor olds) ≡ moved by (typemap_bytes (constructed constructor (map (typemap_in maps) olds)))
steps_over_one maps by constructor one [] e = absurd (omega arith)
steps_over_one maps by constructor one (old ∷ olds) e =
    single_bytes maps by old constructor one ∙ ap (λ m. moved by (typemap_bytes m)) (first_only constructor one (typemap_in maps old) (map (typemap_in maps) olds))

members_bytes : (maps : List Typemap) (by : ℤ) (ms : List Member) (olds : List TypeId) (seen : List ℤ) →
    after_steps maps by seen (member_steps ms olds) ≡ seen ++ moved by (typemap_bytes (members_of ms (map (typemap_in maps) olds)))
members_bytes maps by [] olds seen = after_none maps by seen ∙ sym (append-nil seen) ∙ ap (λ ys. seen ++ ys) (sym (ap (moved by) bytes_none ∙ moved_nil by))
members_bytes maps by (m ∷ ms) [] seen = after_none maps by seen ∙ sym (append-nil seen) ∙ ap (λ ys. seen ++ ys) (sym (ap (moved by) bytes_none ∙ moved_nil by))
members_bytes maps by (m ∷ ms) (old ∷ olds) seen =
    let parts = typemap_in maps old in
    let one = copies_at (byte_block_displacements (extent parts) (times m.length) m.displacement) parts in
    let here = row_bytes maps old (times m.length) (by +ℤ m.displacement) in
    let rest = members_of ms (map (typemap_in maps) olds) in
    let all : moved by (typemap_bytes one) ≡ here =
    ap (moved by) (bytes_at_all _ parts ∙ byte_block_copies (times m.length) m.displacement (extent parts) (typemap_bytes parts)) ∙ moved_copies (times m.length) by m.displacement (extent parts) (typemap_bytes parts) in
    after_more maps by seen (a_row old (times m.length) m.displacement) (member_steps ms olds) ∙ members_bytes maps by ms olds (seen ++ here)
    ∙ append_assoc seen here (moved by (typemap_bytes rest)) ∙ ap (λ ys. seen ++ (ys ++ moved by (typemap_bytes rest))) (sym all)
    ∙ ap (λ ys. seen ++ ys) (sym (moved_append by (typemap_bytes one) (typemap_bytes rest)) ∙ ap (moved by) (sym (bytes_append one rest)))

pub steps_bytes : (maps : List Typemap) (by : ℤ) (constructor : Make) (olds : List TypeId) → length olds ≡ length (old_names constructor) →
    after_steps maps by [] (steps_by maps constructor olds) ≡ moved by (typemap_bytes (constructed constructor (map (typemap_in maps) olds)))
steps_bytes maps by (Struct members) olds h = members_bytes maps by members olds []
steps_bytes maps by (Contiguous count name) olds h = steps_over_one maps by (Contiguous count name) tt olds h
steps_bytes maps by (Vector count len stride name) olds h = steps_over_one maps by (Vector count len stride name) tt olds h
steps_bytes maps by (Hvector count len stride name) olds h = steps_over_one maps by (Hvector count len stride name) tt olds h
steps_bytes maps by (Indexed name blocks) olds h = steps_over_one maps by (Indexed name blocks) tt olds h
steps_bytes maps by (Hindexed name blocks) olds h = steps_over_one maps by (Hindexed name blocks) tt olds h
steps_bytes maps by (IndexedBlock len name ats) olds h = steps_over_one maps by (IndexedBlock len name ats) tt olds h
steps_bytes maps by (Resized name low e) olds h = steps_over_one maps by (Resized name low e) tt olds h
steps_bytes maps by (Subarray order name ds) olds h = steps_over_one maps by (Subarray order name ds) tt olds h
