-- The dimensions of an array, from the fastest on.
use Rattle.std.proofs.Common.{◌≡◌, ℕ, zero, suc, ◌+◌, ◌-◌, ◌<◌, ◌≤◌, ℤ, pos, ◌+ℤ◌, ◌*ℤ◌, List, [], ◌∷◌, ◌++◌, ◌⊎◌, inl, inr, ⊎_elim, length, get_or, drop, slice_get, Some, None, refl, sym, ap, ◌∙◌, arith}
use Rattle.rma_layout.proofs.Words.{ints, drop_more, drop_all, Step, Again, copies_along, start_of_part}
use Rattle.rma_datatype.specs.declared.make.Dimension.{Dimension}
use Rattle.rma_datatype.specs.declared.make.Order.{Order}
use Rattle.rma_datatype.specs.declared.make.Order.TheVariants.{LastFastest, FirstFastest}
use Rattle.rma_typemap.proofs.Words.{times, whole, slowest_first}
use Rattle.rma_typemap.proofs.IntegerLemmas.{mul_assoc}
use Rattle.std.proofs.lemmas.List.{length-reverse, length-append}

pub length_slowest : (order : Order) (ds : List Dimension) → length (slowest_first order ds) ≡ length ds
length_slowest LastFastest ds = refl
length_slowest FirstFastest ds = length-reverse ds

-- the dimensions from the next faster one on
pub next_faster : (ds : List Dimension) (n k : ℕ) (d : Dimension) → length ds ≡ n → k < n → d ≡ get_or ds (n - 1 - k) d → drop (n - (k + 1)) ds ≡ d ∷ drop (n - k) ds
next_faster ds n k d long lt at =
    let here : n - (k + 1) ≡ n - 1 - k = omega arith in
    let next : n - 1 - k + 1 ≡ n - k = omega arith in
    ap (λ i. drop i ds) here ∙ drop_more ds (n - 1 - k) d (omega arith) ∙ ap (λ x. x ∷ drop (n - 1 - k + 1) ds) (sym at) ∙ ap (λ i. d ∷ drop i ds) next

pub none_faster : (ds : List Dimension) (n : ℕ) → length ds ≡ n → drop (n - 0) ds ≡ []
none_faster ds n long = drop_all (n - 0) ds (omega arith)

pub all_faster : (ds : List Dimension) (n k : ℕ) → k ≡ n → drop (n - k) ds ≡ ds
all_faster ds n k e = let none : n - k ≡ 0 = omega arith in ap (λ i. drop i ds) none

one_times : (e : ℤ) → e ≡ pos 1 *ℤ e
one_times e = omega (arith, ints)

pub first_stride : (ds : List Dimension) (n : ℕ) (e : ℤ) → length ds ≡ n → e ≡ whole (drop (n - 0) ds) *ℤ e
first_stride ds n e long = one_times e ∙ ap (λ xs. whole xs *ℤ e) (sym (none_faster ds n long))

module _ (ds : List Dimension) (n k : ℕ) (d : Dimension) (e stride : ℤ) (long : length ds ≡ n) (lt : k < n) (at : d ≡ get_or ds (n - 1 - k) d) (here : stride ≡ whole (drop (n - k) ds) *ℤ e) where
  pub next_stride : (next : ℤ) → next ≡ d.size *ℤ stride → next ≡ whole (drop (n - (k + 1)) ds) *ℤ e
  next_stride next made =
      made ∙ ap (λ x. d.size *ℤ x) here ∙ sym (mul_assoc d.size (whole (drop (n - k) ds)) e) ∙ ap (λ xs. whole xs *ℤ e) (sym (next_faster ds n k d long lt at))

  pub next_start : (start next by : ℤ) → start ≡ start_of_part e (drop (n - k) ds) → by ≡ d.start *ℤ stride → next ≡ by +ℤ start → next ≡ start_of_part e (drop (n - (k + 1)) ds)
  next_start start next by before by_is made =
      made ∙ ap (λ x. x +ℤ start) (by_is ∙ ap (λ x. d.start *ℤ x) here) ∙ ap (λ x. d.start *ℤ (whole (drop (n - k) ds) *ℤ e) +ℤ x) before
      ∙ ap (start_of_part e) (sym (next_faster ds n k d long lt at))

-- the copies along the dimension that varies the k-th fastest
slice_get_left : {X : Type 0} (xs ys : List X) (k : ℕ) → k < length xs → slice_get (xs ++ ys) k ≡ slice_get xs k
slice_get_left [] ys k lt = absurd (omega arith)
slice_get_left (x ∷ xs) ys zero lt = refl
slice_get_left (x ∷ xs) ys (suc k) lt = slice_get_left xs ys k (omega arith)

slice_get_last : {X : Type 0} (xs : List X) (y : X) (k : ℕ) → k ≡ length xs → slice_get (xs ++ y ∷ []) k ≡ Some y
slice_get_last [] y zero e = refl
slice_get_last [] y (suc k) e = absurd (omega arith)
slice_get_last (x ∷ xs) y zero e = absurd (omega arith)
slice_get_last (x ∷ xs) y (suc k) e = slice_get_last xs y k (omega arith)

slice_get_past : {X : Type 0} (xs : List X) (k : ℕ) → length xs ≤ k → slice_get xs k ≡ None
slice_get_past [] k le = refl
slice_get_past (x ∷ xs) zero le = absurd (omega arith)
slice_get_past (x ∷ xs) (suc k) le = slice_get_past xs k (omega arith)

length_along : (e : ℤ) (ds : List Dimension) → length (copies_along e ds) ≡ length ds
length_along e [] = refl
length_along e (d ∷ ds) = length-append (copies_along e ds) (Again (times d.part - 1) (whole ds *ℤ e) ∷ []) ∙ omega (arith, length_along e ds)

abbrev pub along : ℤ → Dimension → List Dimension → Step
along e d faster = Again (times d.part - 1) (whole faster *ℤ e)

below_or_at : (k n : ℕ) → k < suc n → (k < n) ⊎ (k ≡ n)
below_or_at zero zero h = inr refl
below_or_at zero (suc n) h = inl (omega arith)
below_or_at (suc k) zero h = absurd (omega arith)
below_or_at (suc k) (suc n) h = ⊎_elim (λ a. inl (omega arith)) (λ b. inr (ap suc b)) (below_or_at k n (omega arith))

pub along_at : (e : ℤ) (ds : List Dimension) (k : ℕ) (d : Dimension) → k < length ds → d ≡ get_or ds (length ds - 1 - k) d → slice_get (copies_along e ds) k ≡ Some (along e d (drop (length ds - k) ds))
along_at e [] k d lt at = absurd (omega arith)
along_at e (x ∷ ds) k d lt at =
    let last = Again (times x.part - 1) (whole ds *ℤ e) in
    ⊎_elim
    (λ before.
    let here : suc (length ds) - 1 - k ≡ suc (length ds - 1 - k) = omega arith in
    let more : suc (length ds - k) ≡ suc (length ds) - k = omega arith in
    slice_get_left (copies_along e ds) (last ∷ []) k (omega (arith, length_along e ds)) ∙ along_at e ds k d before (at ∙ ap (λ j. get_or (x ∷ ds) j d) here)
    ∙ ap (λ j. Some (along e d (drop j (x ∷ ds)))) more)
    (λ there.
    let here : suc (length ds) - 1 - k ≡ 0 = omega arith in
    let one : 1 ≡ suc (length ds) - k = omega arith in
    let same : x ≡ d = sym (at ∙ ap (λ j. get_or (x ∷ ds) j d) here) in
    slice_get_last (copies_along e ds) last k (omega (arith, length_along e ds)) ∙ ap (λ (y : Dimension). Some (along e y ds)) same
    ∙ ap (λ j. Some (along e d (drop j (x ∷ ds)))) one)
    (below_or_at k (length ds) lt)

pub past_along : (e : ℤ) (ds : List Dimension) (k : ℕ) → length ds ≤ k → slice_get (copies_along e ds) k ≡ None
past_along e ds k le = slice_get_past (copies_along e ds) k (omega (arith, length_along e ds))
