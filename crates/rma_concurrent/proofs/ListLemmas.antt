-- Lists of what is found: how they grow, and that one in order is given by its members.
use Rattle.std.proofs.Common.{◌≡◌, ◌+◌, ◌-◌, ◌<◌, ◌≤◌, ◌⊎◌, ℕ, zero, suc, true, false, List, [], ◌∷◌, ◌++◌, length, get_or, Some, slice_get, inl, inr, refl, sym, ap, subst, ◌∙◌, arith, ⊎_elim}
use Rattle.std.specs.Prelude.{Contains, Err, IfOk, Ok, Result}
use Rattle.std.specs.List.Sorted.{IsPermutation, IsSorted}
use Rattle.std.specs.Ordering.{is_lt, ordering_reverse}
use Rattle.std.specs.declared.cmp.Ordering.{Ordering}
use Rattle.std.specs.declared.cmp.Ordering.TheVariants.{Less, Equal, Greater}
use Rattle.std.proofs.lemmas.Bool.{cases_lt}
use Rattle.std.proofs.lemmas.Option.{get_or_from_slice_get, slice_get-get_or, slice_get_read, slice_get_within}
use Rattle.std.proofs.lemmas.List.Elements.{Contains-append_left, Contains-push, Contains-push_cases}
use Rattle.std.proofs.lemmas.List.Sorted.{Contains-permutation, IsPermutation-sym, ranks_by, sorted_far}
use Rattle.rma_concurrent.specs.Listed.{AreAll, Ascends, IsOfSome}
use Rattle.rma_concurrent.specs.inside.Places.{HasMore, IsFrom, IsInOrder, IsOf, IsOrder}

pub IfOk_map : {T E : Type 0} {P Q : T → Type 0} (r : Result T E) → ((x : T) → P x → Q x) → IfOk r P → IfOk r Q
IfOk_map (Ok x) f is = f x is
IfOk_map (Err e) f is = tt

-- ---- elements and their places

module _ {X : Type 0} where
  pub place_of : (xs : List X) (x : X) → Contains xs x → (i : ℕ) × (slice_get xs i ≡ Some x)
  place_of xs x there = (there.0, slice_get_read xs (length xs) there.0 x refl there.1 (sym there.2))

  pub contained : (xs : List X) (i : ℕ) (x : X) → slice_get xs i ≡ Some x → Contains xs x
  contained xs i x there = (i, slice_get_within xs i x there, get_or_from_slice_get xs i x x there)

  has_none : {P : Type 0} (x : X) → Contains [] x → P
  has_none x (k, lt, at) = absurd (omega arith)

  has_first : (x : X) (xs : List X) → Contains (x ∷ xs) x
  has_first x xs = contained (x ∷ xs) 0 x refl

  has_later : (x y : X) (xs : List X) → Contains xs y → Contains (x ∷ xs) y
  has_later x y xs there = let at = place_of xs y there in contained (x ∷ xs) (suc at.0) y at.1

  first_or_later : {P : Type 0} (x y : X) (xs : List X) → (x ≡ y → P) → (Contains xs y → P) → Contains (x ∷ xs) y → P
  first_or_later x y xs first later (zero, lt, at) = first at
  first_or_later x y xs first later (suc k, lt, at) = later (k, omega arith, at)

  -- an element of a list with one more at its end is one before, or that one
  pub in_push : {P : Type 0} (xs : List X) (x y : X) (i : ℕ) → slice_get (xs ++ x ∷ []) i ≡ Some y → (slice_get xs i ≡ Some y → P) → (i ≡ length xs → x ≡ y → P) → P
  in_push [] x y zero at before last = last refl (cc)
  in_push [] x y (suc i) at before last = absurd (let no : ⊥ = cc in no)
  in_push (z ∷ zs) x y zero at before last = before at
  in_push (z ∷ zs) x y (suc i) at before last = in_push zs x y i at before (λ is same. last (ap suc is) same)

  at_left : (xs ys : List X) (i : ℕ) (x : X) → slice_get xs i ≡ Some x → slice_get (xs ++ ys) i ≡ Some x
  at_left [] ys i x at = absurd (cc)
  at_left (z ∷ zs) ys zero x at = at
  at_left (z ∷ zs) ys (suc i) x at = at_left zs ys i x at

  at_middle : (xs ys : List X) (x : X) → slice_get (xs ++ x ∷ ys) (length xs) ≡ Some x
  at_middle [] ys x = refl
  at_middle (z ∷ zs) ys x = at_middle zs ys x

  pub none_left : (xs : List X) → length xs ≡ 0 → xs ≡ []
  none_left [] is = refl
  none_left (x ∷ xs) is = absurd (omega arith)

-- ---- lists that grow by what is found

module _ {X : Type 0} where
  pub more_none : {P : X → Type 0} (xs : List X) → ((x : X) → P x → ⊥) → HasMore P xs xs
  more_none xs none = record { only = λ x has. inl has; kept = λ x has. has; all = λ x is. absurd (none x is) }

  pub more_more : {P Q R : X → Type 0} (a b c : List X) → HasMore P a b → HasMore Q b c → ((x : X) → R x → P x ⊎ Q x) → ((x : X) → P x → R x) → ((x : X) → Q x → R x) → HasMore R a c
  more_more a b c one two split first second = record {
    only = λ x has. ⊎_elim (λ before. ⊎_elim (λ old. inl old) (λ is. inr (first x is)) (one.only x before)) (λ is. inr (second x is)) (two.only x has);
    kept = λ x has. two.kept x (one.kept x has);
    all = λ x is. ⊎_elim (λ was. two.kept x (one.all x was)) (λ now. two.all x now) (split x is);
  }

  pub more_same : {P Q : X → Type 0} (a b : List X) → HasMore P a b → ((x : X) → P x → Q x) → ((x : X) → Q x → P x) → HasMore Q a b
  more_same a b more there back = record {
    only = λ x has. ⊎_elim (λ old. inl old) (λ is. inr (there x is)) (more.only x has);
    kept = more.kept;
    all = λ x is. more.all x (back x is);
  }

module _ {B X : Type 0} (Is : B → X → Type 0) (list : List B) where
  -- none stands between an index and itself
  pub from_none : (low high : ℕ) (xs : List X) → high ≤ low → HasMore (IsFrom Is list low high) xs xs
  from_none low high xs le = more_none xs (λ x is. let from = is.from in let below = is.below in omega arith)

  -- what is found up to the next index
  pub from_more : (low i : ℕ) (element : B) (a b c : List X) → low ≤ i → slice_get list i ≡ Some element → HasMore (IsFrom Is list low i) a b → HasMore (Is element) b c
      → HasMore (IsFrom Is list low (i + 1)) a c
  from_more low i element a b c le there one two =
      more_more a b c one two
      (λ x found.
      ⊎_elim
      (λ (before : found.place < i). inl (record { place = found.place; element = found.element; from = found.from; below = before; there = found.there; is = found.is }))
      (λ (last : i ≤ found.place).
      let below = found.below in
      let same : found.place ≡ i = omega arith in
      let is_at = found.there in
      let one_element : found.element ≡ element = let again : slice_get list i ≡ Some found.element = subst (λ k. slice_get list k ≡ Some found.element) same is_at in cc in
      inr (subst (λ e. Is e x) one_element found.is))
      (cases_lt found.place i))
      (λ x found. let below = found.below in record { place = found.place; element = found.element; from = found.from; below = omega arith; there = found.there; is = found.is })
      (λ x is. record { place = i; element = element; from = le; below = omega arith; there = there; is = is })

  -- what is found between two indices is all, where none is found elsewhere
  pub from_all : (low high : ℕ) (a b : List X) → ((x : X) (k : ℕ) (element : B) → slice_get list k ≡ Some element → Is element x → (low ≤ k) × (k < high))
      → HasMore (IsFrom Is list low high) a b → HasMore (IsOf Is list) a b
  from_all low high a b elsewhere more =
      more_same a b more
      (λ x found. record { place = found.place; element = found.element; from = omega arith; below = slice_get_within list found.place found.element found.there; there = found.there; is = found.is })
      (λ x found. let in_range = elsewhere x found.place found.element found.there found.is in record { place = found.place; element = found.element; from = in_range.0; below = in_range.1; there = found.there; is = found.is })

  -- what is found from the index before on
  pub from_less : (i last high : ℕ) (element : B) (a b c : List X) → last ≡ i + 1 → i < high → slice_get list i ≡ Some element → HasMore (IsFrom Is list last high) a b → HasMore (Is element) b c
      → HasMore (IsFrom Is list i high) a c
  from_less i last high element a b c next le there one two =
      more_more a b c one two
      (λ x found.
      ⊎_elim
      (λ (first : found.place < last).
      let from = found.from in
      let same : found.place ≡ i = omega arith in
      let is_at = found.there in
      let one_element : found.element ≡ element = let again : slice_get list i ≡ Some found.element = subst (λ k. slice_get list k ≡ Some found.element) same is_at in cc in
      inr (subst (λ e. Is e x) one_element found.is))
      (λ (later : last ≤ found.place). inl (record { place = found.place; element = found.element; from = later; below = found.below; there = found.there; is = found.is }))
      (cases_lt found.place last))
      (λ x found. let from = found.from in record { place = found.place; element = found.element; from = omega arith; below = found.below; there = found.there; is = found.is })
      (λ x is. record { place = i; element = element; from = omega arith; below = le; there = there; is = is })

  -- what is found between two indices, and from there up to a third one
  pub from_joined : (low middle high : ℕ) (a b c : List X) → low ≤ middle → middle ≤ high → HasMore (IsFrom Is list low middle) a b → HasMore (IsFrom Is list middle high) b c
      → HasMore (IsFrom Is list low high) a c
  from_joined low middle high a b c first_le second_le one two =
      more_more a b c one two
      (λ x found.
      ⊎_elim
      (λ (before : found.place < middle). inl (record { place = found.place; element = found.element; from = found.from; below = before; there = found.there; is = found.is }))
      (λ (behind : middle ≤ found.place). inr (record { place = found.place; element = found.element; from = behind; below = found.below; there = found.there; is = found.is }))
      (cases_lt found.place middle))
      (λ x found. let below = found.below in record { place = found.place; element = found.element; from = found.from; below = omega arith; there = found.there; is = found.is })
      (λ x found. let from = found.from in record { place = found.place; element = found.element; from = omega arith; below = found.below; there = found.there; is = found.is })

  -- what is found between two indices is all between wider ones, where none is found before and behind them
  pub from_between : (low high first behind : ℕ) (a b : List X) → first ≤ low → high ≤ behind
      → ((x : X) (k : ℕ) (element : B) → first ≤ k → k < low → slice_get list k ≡ Some element → Is element x → ⊥)
      → ((x : X) (k : ℕ) (element : B) → high ≤ k → k < behind → slice_get list k ≡ Some element → Is element x → ⊥)
      → HasMore (IsFrom Is list low high) a b → HasMore (IsFrom Is list first behind) a b
  from_between low high first behind a b first_le second_le none_before none_behind more =
      more_same a b more
      (λ x found.
      let from = found.from in
      let below = found.below in
      record { place = found.place; element = found.element; from = omega arith; below = omega arith; there = found.there; is = found.is })
      (λ x found.
      record {
        place = found.place;
        element = found.element;
        from = ⊎_elim (λ (before : found.place < low). absurd (none_before x found.place found.element found.from before found.there found.is)) (λ (le : low ≤ found.place). le) (cases_lt found.place low);
        below = ⊎_elim (λ (lt : found.place < high). lt) (λ (past : high ≤ found.place). absurd (none_behind x found.place found.element past found.below found.there found.is)) (cases_lt found.place high);
        there = found.there;
        is = found.is;
      })

-- ---- lists in order

module _ {X : Type 0} (order : X → X → Ordering) (is : IsOrder order) where
  asymmetric : (x y : X) → order x y ≡ Less → order y x ≡ Less → ⊥
  asymmetric x y one two = let turned = is.total.antisymm x y in cc

  -- what is neither behind nor equal comes before
  comes_before : (x y : X) → is_lt (order y x) ≡ false → (order x y ≡ Equal → ⊥) → order x y ≡ Less
  comes_before x y not_less not_equal = by (order y x) refl
    where
      by : (o : Ordering) → order y x ≡ o → order x y ≡ Less
      by Less o = absurd (let is_less : is_lt (order y x) ≡ true = ap is_lt o in cc)
      by Equal o = absurd (not_equal (is.total.antisymm x y ∙ ap ordering_reverse o))
      by Greater o = is.total.antisymm x y ∙ ap ordering_reverse o

  pub none_in_order : IsInOrder order [] []
  none_in_order = record { only = λ x has. has; all = λ x has. has; ascend = λ i j x y lt here there. absurd (cc) }

  -- one more that is there already
  pub skipped : (seen out : List X) (x : X) → IsInOrder order seen out → Contains out x → IsInOrder order (seen ++ x ∷ []) out
  skipped seen out x so has = record {
    only = λ y there. Contains-append_left seen (x ∷ []) y (so.only y there);
    all = λ y there. ⊎_elim (λ before. so.all y before) (λ same. subst (Contains out) same has) (Contains-push_cases seen x y there);
    ascend = so.ascend;
  }

  -- one more that comes behind all
  pub added : (seen out : List X) (x : X) → IsInOrder order seen out → ((y : X) → Contains seen y → is_lt (order x y) ≡ false) → ((y : X) → slice_get out (length out - 1) ≡ Some y → order y x ≡ Equal → ⊥)
      → IsInOrder order (seen ++ x ∷ []) (out ++ x ∷ [])
  added seen out x so behind new = record {
    only = λ y there. ⊎_elim (λ before. Contains-append_left seen (x ∷ []) y (so.only y before)) (λ same. subst (Contains (seen ++ x ∷ [])) same (Contains-push seen x)) (Contains-push_cases out x y there);
    all = λ y there. ⊎_elim (λ before. Contains-append_left out (x ∷ []) y (so.all y before)) (λ same. subst (Contains (out ++ x ∷ [])) same (Contains-push out x)) (Contains-push_cases seen x y there);
    ascend = ascend;
  }
    where
      last_before : (y : X) → slice_get out (length out - 1) ≡ Some y → order y x ≡ Less
      last_before y at = comes_before y x (behind y (so.only y (contained out (length out - 1) y at))) (new y at)

      each_before : (i : ℕ) (y : X) → slice_get out i ≡ Some y → order y x ≡ Less
      each_before i y at =
          let within : i < length out = slice_get_within out i y at in
          ⊎_elim
          (λ (earlier : i < length out - 1).
          let last = get_or out (length out - 1) y in
          let is_last : slice_get out (length out - 1) ≡ Some last = slice_get-get_or out (length out - 1) y (omega arith) in
          is.total.trans y last x (so.ascend i (length out - 1) y last earlier at is_last) (last_before last is_last))
          (λ (same : length out - 1 ≤ i). let e : i ≡ length out - 1 = omega arith in last_before y (subst (λ k. slice_get out k ≡ Some y) e at))
          (cases_lt i (length out - 1))

      ascend : Ascends order (out ++ x ∷ [])
      ascend i j y z lt here there =
          in_push out x z j there
          (λ inside.
          let within : j < length out = slice_get_within out j z inside in
          in_push out x y i here (λ also. so.ascend i j y z lt also inside) (λ past same. absurd (omega arith)))
          (λ last same. in_push out x y i here (λ inside. subst (λ w. order y w ≡ Less) same (each_before i y inside)) (λ past other. absurd (omega arith)))

  -- in a sorted list, those before an element do not come behind it
  pub none_behind : (before after : List X) (x : X) → IsSorted order (before ++ x ∷ after) → (y : X) → Contains before y → is_lt (order x y) ≡ false
  none_behind before after x sorted y has =
      let all = before ++ x ∷ after in
      let at = place_of before y has in
      let low = slice_get_within before at.0 y at.1 in
      let here = at_middle before after x in
      let far = sorted_far (λ a b. is_lt (order a b)) (ranks_by is.total (λ (a : X). a)) all sorted at.0 (length before) y (omega arith) (slice_get_within all (length before) x here) in
      let second : get_or all (length before) y ≡ x = get_or_from_slice_get all (length before) x y here in
      let first : get_or all at.0 y ≡ y = get_or_from_slice_get all at.0 y y (at_left before (x ∷ after) at.0 y at.1) in
      subst (λ a. is_lt (order a y) ≡ false) second (subst (λ b. is_lt (order (get_or all (length before) y) b) ≡ false) first far)

  -- what is in order of a list is so of one with the same elements
  pub in_order_of : (xs ys out : List X) → IsPermutation xs ys → IsInOrder order ys out → IsInOrder order xs out
  in_order_of xs ys out moved so = record {
    only = λ x has. Contains-permutation ys xs x (IsPermutation-sym xs ys moved) (so.only x has);
    all = λ x has. so.all x (Contains-permutation xs ys x moved has);
    ascend = so.ascend;
  }

  first_before : (x : X) (xs : List X) → Ascends order (x ∷ xs) → (y : X) → Contains xs y → order x y ≡ Less
  first_before x xs ascend y there = let at = place_of xs y there in ascend 0 (suc at.0) x y (omega arith) refl at.1

  later_ascend : (x : X) (xs : List X) → Ascends order (x ∷ xs) → Ascends order xs
  later_ascend x xs ascend = λ i j y z less here there. ascend (suc i) (suc j) y z (omega arith) here there

  same_first : (x y : X) (xs ys : List X) → Ascends order (x ∷ xs) → Ascends order (y ∷ ys) → Contains (y ∷ ys) x → Contains (x ∷ xs) y → x ≡ y
  same_first x y xs ys one two has_x has_y =
      first_or_later y x ys
      (λ same. sym same)
      (λ later. first_or_later x y xs (λ same. same) (λ behind. absurd (asymmetric x y (first_before x xs one y behind) (first_before y ys two x later))) has_y)
      has_x

  later_within : (x y : X) (xs ys : List X) → Ascends order (x ∷ xs) → x ≡ y → ((z : X) → Contains (x ∷ xs) z → Contains (y ∷ ys) z) → (z : X) → Contains xs z → Contains ys z
  later_within x y xs ys ascend same within z has =
      first_or_later y z ys
      (λ first.
      let before : order x x ≡ Less = subst (λ w. order x w ≡ Less) (sym (same ∙ first)) (first_before x xs ascend z has) in
      absurd (asymmetric x x before before))
      (λ later. later)
      (within z (has_later x z xs has))

  -- two lists that ascend and have the same members are equal
  one_list : (xs ys : List X) → Ascends order xs → Ascends order ys → ((z : X) → Contains xs z → Contains ys z) → ((z : X) → Contains ys z → Contains xs z) → xs ≡ ys
  one_list [] [] one two there back = refl
  one_list [] (y ∷ ys) one two there back = has_none y (back y (has_first y ys))
  one_list (x ∷ xs) [] one two there back = has_none x (there x (has_first x xs))
  one_list (x ∷ xs) (y ∷ ys) one two there back =
      let same = same_first x y xs ys one two (there x (has_first x xs)) (back y (has_first y ys)) in
      let rest = one_list xs ys (later_ascend x xs one) (later_ascend y ys two) (later_within x y xs ys one same there) (later_within y x ys xs two (sym same) back) in
      λ k. same k ∷ rest k

  -- the list of all that is found is one
  pub all_once : (P : X → Type 0) (xs ys : List X) → AreAll order P xs → AreAll order P ys → xs ≡ ys
  all_once P xs ys one two = one_list xs ys one.ascend two.ascend (λ x has. two.all x (one.only x has)) (λ x has. one.all x (two.only x has))

module _ {A B X : Type 0} (order : X → X → Ordering) (Is : A → B → X → Type 0) (firsts : List A) (seconds list : List B) where
  -- what is gathered is what is found of pairs, and in order it is the list of all
  pub all_gathered : (found out : List X) → IsPermutation seconds list → HasMore (IsOf (λ first. IsOf (Is first) list) firsts) [] found → IsInOrder order found out
      → AreAll order (IsOfSome Is firsts seconds) out
  all_gathered found out moved more so = record {
    only = λ x has. ⊎_elim (λ none. has_none x none) (λ one. told x one) (more.only x (so.only x has));
    all = λ x one. so.all x (more.all x (back x one));
    ascend = so.ascend;
  }
    where
      told : (x : X) → IsOf (λ first. IsOf (Is first) list) firsts x → IsOfSome Is firsts seconds x
      told x one = record {
        first = one.element;
        second = one.is.element;
        has_first = contained firsts one.place one.element one.there;
        has_second = Contains-permutation list seconds one.is.element (IsPermutation-sym seconds list moved) (contained list one.is.place one.is.element one.is.there);
        is = one.is.is;
      }

      back : (x : X) → IsOfSome Is firsts seconds x → IsOf (λ first. IsOf (Is first) list) firsts x
      back x one =
          let first = place_of firsts one.first one.has_first in
          let second = place_of list one.second (Contains-permutation seconds list one.second moved one.has_second) in
          record {
            place = first.0;
            element = one.first;
            from = omega arith;
            below = slice_get_within firsts first.0 one.first first.1;
            there = first.1;
            is = record { place = second.0; element = one.second; from = omega arith; below = slice_get_within list second.0 one.second second.1; there = second.1; is = one.is };
          }
