-- Of each call for each reason the first report of a sorted list.
use Rattle.std.proofs.Common.{◌≡◌, ◌-◌, ◌<◌, ◌≤◌, ℕ, zero, suc, true, false, List, [], ◌∷◌, ◌++◌, length, get_or, Some, slice_get, take, refl, sym, ap, subst, ◌∙◌, arith, ⊎_elim}
use Rattle.std.specs.Prelude.{Contains}
use Rattle.std.specs.List.Sorted.{IsPermutation, IsSorted}
use Rattle.std.specs.Ordering.{is_lt, ordering_reverse, ordering_then}
use Rattle.std.specs.declared.cmp.Ordering.{Ordering}
use Rattle.std.specs.declared.cmp.Ordering.TheVariants.{Less, Equal, Greater}
use Rattle.std.proofs.lemmas.Bool.{cases_lt}
use Rattle.std.proofs.lemmas.Cmp.{tied_itself}
use Rattle.std.proofs.lemmas.Option.{get_or_from_slice_get, same_Some, slice_get-get_or, slice_get_within}
use Rattle.std.proofs.lemmas.List.Elements.{Contains-append_left, Contains-push, Contains-push_cases}
use Rattle.std.proofs.lemmas.List.Sorted.{Contains-permutation, IsPermutation-sym, ranks_by, sorted_far}
use Rattle.rma_concurrent.specs.inside.Places.{HasMore}
use Rattle.rma_concurrent.proofs.ListLemmas.{contained, in_push, place_of}
use Rattle.rma_assert.specs.declared.assertion.BrokenAssertion.{BrokenAssertion}
use Rattle.rma_assert.specs.Broken.{AreFirsts, IsFirst, assertion_order, call_order, other_order}
use Rattle.rma_assert.specs.inside.Gathered.{AreFirstOf, is_same_call}
use Rattle.rma_assert.proofs.OrderLemmas.{AreOfCall, assertion_is_order, assertion_total, call_total, of_call, of_call_equal, of_call_test, other_total, test_of_call}

-- ---- orders

then_not_less : (a b : Ordering) → a ≡ Equal → is_lt (ordering_then a b) ≡ false → is_lt b ≡ false
then_not_less a b same e = subst (λ o. is_lt (ordering_then o b) ≡ false) same e

turned : (f g : BrokenAssertion) → AreOfCall f g → AreOfCall g f
turned f g so = record { reason = sym so.reason; rank = sym so.rank; line = sym so.line }

joined : (f g h : BrokenAssertion) → AreOfCall f g → AreOfCall g h → AreOfCall f h
joined f g h one two = record { reason = one.reason ∙ two.reason; rank = one.rank ∙ two.rank; line = one.line ∙ two.line }

-- a report that another does not come before, and that is not of its call, is of an earlier one
call_before : (x y : BrokenAssertion) → is_lt (assertion_order y x) ≡ false → is_same_call x y ≡ false → call_order x y ≡ Less
call_before x y not_less other = by (call_order y x) refl
  where
    by : (o : Ordering) → call_order y x ≡ o → call_order x y ≡ Less
    by Less o = absurd (let less : is_lt (ordering_then (call_order y x) (other_order y x)) ≡ true = ap (λ c. is_lt (ordering_then c (other_order y x))) o in cc)
    by Equal o = absurd (let same : is_same_call x y ≡ true = test_of_call x y (turned y x (of_call y x o)) in cc)
    by Greater o = call_total.antisymm x y ∙ ap ordering_reverse o

-- ---- lists

pub none_first : AreFirstOf [] []
none_first = record { only = λ x has. has; each = λ x has. absurd (let less = has.1 in omega arith); ascend = λ i j x y lt here there. absurd (cc) }

module _ (seen out : List BrokenAssertion) (report : BrokenAssertion) (so : AreFirstOf seen out) (behind : (x : BrokenAssertion) → Contains seen x → is_lt (assertion_order report x) ≡ false) where
  -- one more of a call that there is already
  pub first_skipped : (x : BrokenAssertion) → Contains out x → is_same_call x report ≡ true → AreFirstOf (seen ++ report ∷ []) out
  first_skipped y has same = record {
    only = λ x there. Contains-append_left seen (report ∷ []) x (so.only x there);
    each = λ x there. ⊎_elim (λ before. so.each x before) (λ (is : report ≡ x). subst Kept is kept) (Contains-push_cases seen report x there);
    ascend = so.ascend;
  }
    where
      Kept : BrokenAssertion → Type 0
      Kept x = (y : BrokenAssertion) × Contains out y × (is_same_call y x ≡ true) × (is_lt (other_order x y) ≡ false)

      kept : Kept report
      kept = (y, has, same, then_not_less (call_order report y) (other_order report y) (of_call_equal report y (turned y report (of_call_test y report same))) (behind y (so.only y has)))

  -- one more of another call
  pub first_added : ((x : BrokenAssertion) → slice_get out (length out - 1) ≡ Some x → is_same_call x report ≡ false) → AreFirstOf (seen ++ report ∷ []) (out ++ report ∷ [])
  first_added new = record {
    only = λ x there.
        ⊎_elim (λ before. Contains-append_left seen (report ∷ []) x (so.only x before)) (λ (is : report ≡ x). subst (Contains (seen ++ report ∷ [])) is (Contains-push seen report)) (Contains-push_cases out report x there);
    each = λ x there.
        ⊎_elim
        (λ before. let one = so.each x before in (one.0, Contains-append_left out (report ∷ []) one.0 one.1, one.2, one.3))
        (λ (is : report ≡ x). subst Kept is kept)
        (Contains-push_cases seen report x there);
    ascend = ascend;
  }
    where
      Kept : BrokenAssertion → Type 0
      Kept x = (y : BrokenAssertion) × Contains (out ++ report ∷ []) y × (is_same_call y x ≡ true) × (is_lt (other_order x y) ≡ false)

      kept : Kept report
      kept = (report, Contains-push out report, test_of_call report report (record { reason = refl; rank = refl; line = refl }), ap is_lt (tied_itself other_total report))

      last_before : (y : BrokenAssertion) → slice_get out (length out - 1) ≡ Some y → call_order y report ≡ Less
      last_before y at = call_before y report (behind y (so.only y (contained out (length out - 1) y at))) (new y at)

      each_before : (i : ℕ) (y : BrokenAssertion) → slice_get out i ≡ Some y → call_order y report ≡ Less
      each_before i y at =
          let within : i < length out = slice_get_within out i y at in
          ⊎_elim
          (λ (earlier : i < length out - 1).
          let last = get_or out (length out - 1) y in
          let is_last : slice_get out (length out - 1) ≡ Some last = slice_get-get_or out (length out - 1) y (omega arith) in
          call_total.trans y last report (so.ascend i (length out - 1) y last earlier at is_last) (last_before last is_last))
          (λ (same : length out - 1 ≤ i). let e : i ≡ length out - 1 = omega arith in last_before y (subst (λ k. slice_get out k ≡ Some y) e at))
          (cases_lt i (length out - 1))

      ascend : (i j : ℕ) (y z : BrokenAssertion) → i < j → slice_get (out ++ report ∷ []) i ≡ Some y → slice_get (out ++ report ∷ []) j ≡ Some z → call_order y z ≡ Less
      ascend i j y z lt here there =
          in_push out report z j there
          (λ inside.
          let within : j < length out = slice_get_within out j z inside in
          in_push out report y i here (λ also. so.ascend i j y z lt also inside) (λ past same. absurd (omega arith)))
          (λ last same. in_push out report y i here (λ inside. subst (λ w. call_order y w ≡ Less) same (each_before i y inside)) (λ past other. absurd (omega arith)))

-- of two lists with the same reports
pub first_of : (xs ys out : List BrokenAssertion) → IsPermutation xs ys → AreFirstOf ys out → AreFirstOf xs out
first_of xs ys out moved so = record {
  only = λ x has. Contains-permutation ys xs x (IsPermutation-sym xs ys moved) (so.only x has);
  each = λ x has. so.each x (Contains-permutation xs ys x moved has);
  ascend = so.ascend;
}

-- ---- the list of all

module _ (found out : List BrokenAssertion) (so : AreFirstOf found out) where
  -- of one call there is one
  one_of_call : (x y : BrokenAssertion) → Contains out x → Contains out y → AreOfCall x y → x ≡ y
  one_of_call x y has_x has_y same =
      let at = place_of out x has_x in
      let other = place_of out y has_y in
      ⊎_elim
      (λ (less : at.0 < other.0). absurd (let before = so.ascend at.0 other.0 x y less at.1 other.1 in let equal = of_call_equal x y same in cc))
      (λ (le : other.0 ≤ at.0).
      ⊎_elim
      (λ (less : other.0 < at.0). absurd (let before = so.ascend other.0 at.0 y x less other.1 at.1 in let equal = of_call_equal y x (turned x y same) in cc))
      (λ (ge : at.0 ≤ other.0). let e : at.0 ≡ other.0 = omega arith in same_Some x y (sym at.1 ∙ ap (slice_get out) e ∙ other.1))
      (cases_lt other.0 at.0))
      (cases_lt at.0 other.0)

neither : (f g : BrokenAssertion) → is_lt (other_order f g) ≡ false → is_lt (other_order g f) ≡ false → other_order f g ≡ Equal
neither f g one two = by (other_order g f) refl
  where
    by : (o : Ordering) → other_order g f ≡ o → other_order f g ≡ Equal
    by Less o = absurd (let less : is_lt (other_order g f) ≡ true = ap is_lt o in cc)
    by Equal o = other_total.antisymm f g ∙ ap ordering_reverse o
    by Greater o = absurd (let less : is_lt (other_order f g) ≡ true = ap is_lt (other_total.antisymm f g ∙ ap ordering_reverse o) in cc)

module _ (Is : BrokenAssertion → Type 0) (found out : List BrokenAssertion) (more : HasMore Is [] found) (so : AreFirstOf found out) where
  shown : (x : BrokenAssertion) → Contains out x → Is x
  shown x has = ⊎_elim (λ none. absurd (let less = none.1 in omega arith)) (λ is. is) (more.only x (so.only x has))

  is_first : (x : BrokenAssertion) → Contains out x → IsFirst Is x
  is_first x has = record {
    shown = shown x has;
    first = λ other is same.
        let one = so.each other (more.all other is) in
        let own : one.0 ≡ x = one_of_call found out so one.0 x one.1 has (joined one.0 other x (of_call_test one.0 other one.2) (turned x other (of_call x other same))) in
        subst (λ y. is_lt (other_order other y) ≡ false) own one.3;
  }

  has_first : (x : BrokenAssertion) → IsFirst Is x → Contains out x
  has_first x is =
      let one = so.each x (more.all x is.shown) in
      let same = of_call_equal x one.0 (turned one.0 x (of_call_test one.0 x one.2)) in
      let tie = neither x one.0 one.3 (is.first one.0 (shown one.0 one.1) same) in
      subst (Contains out) (sym (assertion_is_order.ties x one.0 (ap (λ o. ordering_then o (other_order x one.0)) same ∙ tie))) one.1

  pub are_firsts : AreFirsts Is out
  are_firsts = record {
    only = is_first;
    all = has_first;
    ascend = λ i j x y lt here there. ap (λ o. ordering_then o (other_order x y)) (so.ascend i j x y lt here there);
  }

-- ---- the reports of a sorted list before a place

taken_at : (xs : List BrokenAssertion) (i k : ℕ) (x : BrokenAssertion) → slice_get (take i xs) k ≡ Some x → (k < i) × (slice_get xs k ≡ Some x)
taken_at xs zero k x at = absurd (cc)
taken_at [] (suc i) k x at = absurd (cc)
taken_at (y ∷ ys) (suc i) zero x at = (omega arith, at)
taken_at (y ∷ ys) (suc i) (suc k) x at = let rest = taken_at ys i k x at in let less = rest.0 in (omega arith, rest.1)

pub taken_behind : (sorted : List BrokenAssertion) → IsSorted assertion_order sorted → (i : ℕ) (report : BrokenAssertion) → slice_get sorted i ≡ Some report → (x : BrokenAssertion) → Contains (take i sorted) x
    → is_lt (assertion_order report x) ≡ false
taken_behind sorted rise i report here x has =
    let place = place_of (take i sorted) x has in
    let at = taken_at sorted i place.0 x place.1 in
    let less = at.0 in
    let far = sorted_far (λ f g. is_lt (assertion_order f g)) (ranks_by assertion_total (λ (f : BrokenAssertion). f)) sorted rise place.0 i x (omega arith) (slice_get_within sorted i report here) in
    let first : get_or sorted place.0 x ≡ x = get_or_from_slice_get sorted place.0 x x at.1 in
    let second : get_or sorted i x ≡ report = get_or_from_slice_get sorted i report x here in
    subst (λ f. is_lt (assertion_order f x) ≡ false) second (subst (λ g. is_lt (assertion_order (get_or sorted i x) g) ≡ false) first far)
