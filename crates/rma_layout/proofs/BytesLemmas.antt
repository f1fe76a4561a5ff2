-- Lists of bytes: bytes side by side, moved, copied, cut, and counted in blocks.
use Rattle.std.proofs.Common.{◌≡◌, ℕ, zero, suc, ◌+◌, ◌-◌, ◌*◌, ◌<◌, ◌≤◌, min, ℤ, pos, ◌+ℤ◌, ◌*ℤ◌, List, [], ◌∷◌, ◌++◌, map, length, get_or, take, drop, Option, Some, refl, sym, ap, ◌∙◌, arith}
use Rattle.rma_layout.proofs.Words.{ints, append-nil, append_assoc, length-map, length-take, length-take-le, map-append, take_more, take-take, take-append-drop, drop_all, Block, span, bytes_of, moved, copies, begins, breaks_from, end_from, gap}
use Rattle.std.proofs.lemmas.List.{drop-append-le}
use Rattle.std.proofs.lemmas.List.Concat.{flat_map-append}
use Rattle.rma_typemap.proofs.BlocksLemmas.{gap_same}

-- ---- bytes side by side

pub span_append : (at : ℤ) (m n : ℕ) → span at (m + n) ≡ span at m ++ span (at +ℤ pos m) n
unfolding span
span_append at zero n =
    let none : 0 + n ≡ n = omega arith in let same : at ≡ at +ℤ pos 0 = omega (arith, ints) in rw none (ap (λ x. span x n) same)
span_append at (suc m) n =
    let one_more : suc m + n ≡ suc (m + n) = omega arith in
    let later : (at +ℤ pos 1) +ℤ pos m ≡ at +ℤ pos (suc m) = omega (arith, ints) in
    rw one_more (ap (λ xs. at ∷ xs) (span_append (at +ℤ pos 1) m n ∙ ap (λ x. span (at +ℤ pos 1) m ++ span x n) later))

pub span_none : (at : ℤ) → span at 0 ≡ []
unfolding span
span_none at = refl

pub length_span : (at : ℤ) (n : ℕ) → length (span at n) ≡ n
unfolding span
length_span at zero = refl
length_span at (suc n) = ap suc (length_span (at +ℤ pos 1) n)

pub take_span : (at : ℤ) (k n : ℕ) → take k (span at n) ≡ span at (min n k)
unfolding span
take_span at zero n = let none : min n 0 ≡ 0 = omega arith in rw none refl
take_span at (suc k) zero = let none : min 0 (suc k) ≡ 0 = omega arith in rw none refl
take_span at (suc k) (suc n) =
    let one_more : min (suc n) (suc k) ≡ suc (min n k) = omega arith in rw one_more (ap (λ xs. at ∷ xs) (take_span (at +ℤ pos 1) k n))

-- ---- blocks

pub bytes_of_append : (xs ys : List Block) → bytes_of (xs ++ ys) ≡ bytes_of xs ++ bytes_of ys
unfolding bytes_of
bytes_of_append xs ys = flat_map-append (λ (b : Block). span b.start b.len) xs ys

pub bytes_of_nil : bytes_of [] ≡ []
unfolding bytes_of
bytes_of_nil = refl

pub bytes_of_cons : (b : Block) (bs : List Block) → bytes_of (b ∷ bs) ≡ span b.start b.len ++ bytes_of bs
unfolding bytes_of
bytes_of_cons b bs = refl

pub bytes_of_one : (b : Block) → bytes_of (b ∷ []) ≡ span b.start b.len
bytes_of_one b = bytes_of_cons b [] ∙ ap (λ xs. span b.start b.len ++ xs) bytes_of_nil ∙ append-nil (span b.start b.len)

pub bytes_of_more : (bs : List Block) (i : ℕ) (d : Block) → i < length bs → bytes_of (take (i + 1) bs) ≡ bytes_of (take i bs) ++ span (get_or bs i d).start (get_or bs i d).len
bytes_of_more bs i d lt = rw (take_more bs i d lt, bytes_of_append (take i bs) (get_or bs i d ∷ []), bytes_of_one (get_or bs i d))

-- ---- moved

pub moved_nil : (by : ℤ) → moved by [] ≡ []
unfolding moved
moved_nil by = refl

pub moved_append : (by : ℤ) (xs ys : List ℤ) → moved by (xs ++ ys) ≡ moved by xs ++ moved by ys
unfolding moved
moved_append by xs ys = map-append (λ b. by +ℤ b) xs ys

pub length_moved : (by : ℤ) (xs : List ℤ) → length (moved by xs) ≡ length xs
unfolding moved
length_moved by xs = length-map xs (λ b. by +ℤ b)

pub moved_span : (by at : ℤ) (n : ℕ) → moved by (span at n) ≡ span (by +ℤ at) n
unfolding moved span
moved_span by at zero = refl
moved_span by at (suc n) =
    let later : by +ℤ (at +ℤ pos 1) ≡ (by +ℤ at) +ℤ pos 1 = omega (arith, ints) in
    ap (λ xs. (by +ℤ at) ∷ xs) (moved_span by (at +ℤ pos 1) n ∙ ap (λ x. span x n) later)

pub moved_moved : (a b : ℤ) (xs : List ℤ) → moved a (moved b xs) ≡ moved (a +ℤ b) xs
unfolding moved
moved_moved a b [] = refl
moved_moved a b (x ∷ xs) =
    let one : a +ℤ (b +ℤ x) ≡ (a +ℤ b) +ℤ x = omega (arith, ints) in
    ap (λ y. y ∷ map (λ z. a +ℤ z) (map (λ z. b +ℤ z) xs)) one ∙ ap (λ ys. ((a +ℤ b) +ℤ x) ∷ ys) (moved_moved a b xs)

pub moved_zero : (xs : List ℤ) → moved (pos 0) xs ≡ xs
unfolding moved
moved_zero [] = refl
moved_zero (x ∷ xs) =
    let one : pos 0 +ℤ x ≡ x = omega (arith, ints) in
    ap (λ y. y ∷ map (λ z. pos 0 +ℤ z) xs) one ∙ ap (λ ys. x ∷ ys) (moved_zero xs)

-- ---- copies

pub copies_zero : (at stride : ℤ) (xs : List ℤ) → copies 0 at stride xs ≡ []
unfolding copies
copies_zero at stride xs = refl

pub copies_suc : (n : ℕ) (at stride : ℤ) (xs : List ℤ) → copies (suc n) at stride xs ≡ moved at xs ++ copies n (at +ℤ stride) stride xs
unfolding copies
copies_suc n at stride xs = refl

pub moved_copies : (n : ℕ) (by at stride : ℤ) (xs : List ℤ) → moved by (copies n at stride xs) ≡ copies n (by +ℤ at) stride xs
moved_copies zero by at stride xs = rw (copies_zero, copies_zero, moved_nil by)
moved_copies (suc n) by at stride xs =
    let later : by +ℤ (at +ℤ stride) ≡ (by +ℤ at) +ℤ stride = omega (arith, ints) in
    rw (copies_suc n at stride xs, copies_suc n (by +ℤ at) stride xs, moved_append by (moved at xs) (copies n (at +ℤ stride) stride xs), moved_moved by at xs, moved_copies n by (at +ℤ stride) stride xs, later)

pub copies_of_moved : (n : ℕ) (at stride by : ℤ) (xs : List ℤ) → copies n at stride (moved by xs) ≡ copies n (at +ℤ by) stride xs
copies_of_moved zero at stride by xs = rw (copies_zero, copies_zero)
copies_of_moved (suc n) at stride by xs =
    let later : (at +ℤ stride) +ℤ by ≡ (at +ℤ by) +ℤ stride = omega (arith, ints) in
    rw (copies_suc n at stride (moved by xs), copies_suc n (at +ℤ by) stride xs, moved_moved at by xs, copies_of_moved n (at +ℤ stride) stride by xs, later)

pub copies_nil : (n : ℕ) (at stride : ℤ) → copies n at stride [] ≡ []
copies_nil zero at stride = copies_zero at stride []
copies_nil (suc n) at stride = rw (copies_suc n at stride [], moved_nil at, copies_nil n (at +ℤ stride) stride)

pub copies_add : (m n : ℕ) (at stride : ℤ) (xs : List ℤ) → copies (m + n) at stride xs ≡ copies m at stride xs ++ copies n (at +ℤ pos m *ℤ stride) stride xs
copies_add zero n at stride xs =
    let none : 0 + n ≡ n = omega arith in let same : at ≡ at +ℤ pos 0 *ℤ stride = omega (arith, ints) in
    rw (none, copies_zero at stride xs) (ap (λ x. copies n x stride xs) same)
copies_add (suc m) n at stride xs =
    let one_more : suc m + n ≡ suc (m + n) = omega arith in
    let later : (at +ℤ stride) +ℤ pos m *ℤ stride ≡ at +ℤ pos (suc m) *ℤ stride = omega (arith, ints) in
    rw (one_more, copies_suc (m + n) at stride xs, copies_suc m at stride xs, copies_add m n (at +ℤ stride) stride xs, later)
    (sym (append_assoc (moved at xs) (copies m (at +ℤ stride) stride xs) (copies n (at +ℤ pos (suc m) *ℤ stride) stride xs)))

pub copies_one : (at stride : ℤ) (xs : List ℤ) → copies 1 at stride xs ≡ moved at xs
copies_one at stride xs = rw (copies_suc 0 at stride xs, copies_zero (at +ℤ stride) stride xs) (append-nil (moved at xs))

-- one copy more
pub copies_more : (k : ℕ) (at stride by : ℤ) (xs : List ℤ) → by ≡ at +ℤ pos k *ℤ stride → copies k at stride xs ++ moved by xs ≡ copies (k + 1) at stride xs
copies_more k at stride by xs e =
    ap (λ x. copies k at stride xs ++ moved x xs) e ∙ ap (λ ys. copies k at stride xs ++ ys) (sym (copies_one (at +ℤ pos k *ℤ stride) stride xs)) ∙ sym (copies_add k 1 at stride xs)

-- the copies up to one, and the others
pub copies_split : (k n : ℕ) (at stride : ℤ) (xs : List ℤ) → k ≤ n → copies n at stride xs ≡ copies k at stride xs ++ copies (n - k) (at +ℤ pos k *ℤ stride) stride xs
copies_split k n at stride xs le = let all : n ≡ k + (n - k) = omega arith in ap (λ m. copies m at stride xs) all ∙ copies_add k (n - k) at stride xs

-- ---- a range of blocks

-- the bytes of the blocks between two of them
abbrev pub range : ℕ → ℕ → List Block → List ℤ
range from to bs = bytes_of (drop from (take to bs))

pub range_none : (from : ℕ) (bs : List Block) → range from from bs ≡ []
range_none from bs = ap bytes_of (drop_all from (take from bs) (omega (arith, length-take from bs))) ∙ bytes_of_nil

pub range_split : (from i to : ℕ) (bs : List Block) → from ≤ i → i ≤ to → to ≤ length bs → range from to bs ≡ range from i bs ++ bytes_of (drop i (take to bs))
range_split from i to bs le lt within =
    let long : length (take i bs) ≡ i = length-take-le i bs (omega arith) in
    ap (λ xs. bytes_of (drop from xs)) (sym (take-append-drop i (take to bs)) ∙ ap (λ xs. xs ++ drop i (take to bs)) (take-take i to bs lt))
    ∙ ap bytes_of (drop-append-le from (take i bs) (drop i (take to bs)) (omega arith))
    ∙ bytes_of_append (drop from (take i bs)) (drop i (take to bs))

pub range_more : (from i : ℕ) (bs : List Block) (d : Block) → from ≤ i → i < length bs → range from (i + 1) bs ≡ range from i bs ++ span (get_or bs i d).start (get_or bs i d).len
range_more from i bs d le lt =
    let long : length (take i bs) ≡ i = length-take-le i bs (omega arith) in
    ap (λ xs. bytes_of (drop from xs)) (take_more bs i d lt)
    ∙ ap bytes_of (drop-append-le from (take i bs) (get_or bs i d ∷ []) (omega arith))
    ∙ bytes_of_append (drop from (take i bs)) (get_or bs i d ∷ []) ∙ ap (λ xs. range from i bs ++ xs) (bytes_of_one (get_or bs i d))

-- copies of a block that are as far apart as it is long are one block
pub copies_of_span : (n k : ℕ) (from at : ℤ) → copies n from (pos k) (span at k) ≡ span (from +ℤ at) (n * k)
unfolding span
copies_of_span zero k from at = let none : 0 * k ≡ 0 = omega arith in rw (none, copies_zero from (pos k) (span at k))
copies_of_span (suc n) k from at =
    let all : suc n * k ≡ k + n * k = omega arith in
    let later : (from +ℤ pos k) +ℤ at ≡ (from +ℤ at) +ℤ pos k = omega (arith, ints) in
    rw (copies_suc n from (pos k) (span at k), all, span_append (from +ℤ at) k (n * k), moved_span from at k, copies_of_span n k (from +ℤ pos k) at, later)

-- ---- cut

pub take_append : {X : Type 0} (n : ℕ) (xs ys : List X) → take n (xs ++ ys) ≡ take n xs ++ take (n - length xs) ys
take_append zero xs ys = let none : 0 ≡ 0 - length xs = omega arith in ap (λ k. take k ys) none
take_append (suc n) [] ys = let all : suc n ≡ suc n - 0 = omega arith in ap (λ k. take k ys) all
take_append (suc n) (x ∷ xs) ys =
    let less : n - length xs ≡ suc n - suc (length xs) = omega arith in ap (λ zs. x ∷ zs) (take_append n xs ys ∙ ap (λ k. take n xs ++ take k ys) less)

pub take_zero : (n : ℕ) (xs : List ℤ) → n ≡ 0 → take n xs ≡ []
take_zero n xs e = ap (λ k. take k xs) e

-- ---- blocks, counted

pub breaks_append : (end : Option ℤ) (xs ys : List ℤ) → breaks_from end (xs ++ ys) ≡ breaks_from end xs + breaks_from (end_from end xs) ys
unfolding breaks_from end_from
breaks_append end [] ys = omega arith
breaks_append end (x ∷ xs) ys = omega (arith, breaks_append (Some (x +ℤ pos 1)) xs ys)

pub end_append : (end : Option ℤ) (xs ys : List ℤ) → end_from end (xs ++ ys) ≡ end_from (end_from end xs) ys
unfolding end_from
end_append end [] ys = refl
end_append end (x ∷ xs) ys = end_append (Some (x +ℤ pos 1)) xs ys

gap_none : (at : ℤ) → gap at at ≡ 0
unfolding gap
gap_none at = gap_same at at refl

breaks_of_rest : (at : ℤ) (n : ℕ) → (breaks_from (Some at) (span at n) ≡ 0) × (end_from (Some at) (span at n) ≡ Some (at +ℤ pos n))
unfolding breaks_from end_from span
breaks_of_rest at zero = (refl, ap Some (omega (arith, ints)))
breaks_of_rest at (suc n) =
    let rest = breaks_of_rest (at +ℤ pos 1) n in
    let last : (at +ℤ pos 1) +ℤ pos n ≡ at +ℤ pos (suc n) = omega (arith, ints) in
    (omega (arith, gap_none at, rest.0), rest.1 ∙ ap Some last)

pub breaks_of_span : (end : Option ℤ) (at : ℤ) (n : ℕ) → 0 < n → breaks_from end (span at n) ≡ begins end at
unfolding breaks_from span
breaks_of_span end at zero h = absurd (omega arith)
breaks_of_span end at (suc n) h = omega (arith, (breaks_of_rest (at +ℤ pos 1) n).0)

pub end_of_span : (end : Option ℤ) (at : ℤ) (n : ℕ) → 0 < n → end_from end (span at n) ≡ Some (at +ℤ pos n)
unfolding end_from span
end_of_span end at zero h = absurd (omega arith)
end_of_span end at (suc n) h =
    let last : (at +ℤ pos 1) +ℤ pos n ≡ at +ℤ pos (suc n) = omega (arith, ints) in
    (breaks_of_rest (at +ℤ pos 1) n).1 ∙ ap Some last
