-- The order of exposures.
use Rattle.std.proofs.Common.{◌≡◌, ◌+◌, ◌-◌, ◌<◌, ◌≤◌, ℕ, zero, suc, ◌||◌, Bool, true, false, not, List, length, get_or, Option, Some, None, slice_get, refl, sym, ap, subst, ◌∙◌, arith, ⊎_elim}
use Rattle.std.specs.Cmp.{IsTotalOrder}
use Rattle.std.specs.List.{AllAdjacentBelow}
use Rattle.std.specs.List.Sorted.{IsPartitionedBy, IsPartitionPoint, IsSortedByKey}
use Rattle.std.specs.Ordering.{is_lt, nat_cmp, ordering_then}
use Rattle.std.specs.declared.cmp.Ordering.{Ordering}
use Rattle.std.specs.declared.cmp.Ordering.TheVariants.{Less, Equal, Greater}
use Rattle.std.proofs.lemmas.Bool.{cases_lt}
use Rattle.std.proofs.lemmas.Bool.Decides.{nat_tests}
use Rattle.std.proofs.lemmas.Cmp.{nat_cmp_total, on_total, then_total, tied_itself}
use Rattle.std.proofs.lemmas.List.Sorted.{ranks_by, sorted_far}
use Rattle.std.proofs.lemmas.Option.{get_or_from_slice_get, slice_get-get_or, slice_get_within}
use Rattle.rma_window.specs.declared.window_id.WindowId.{WindowId}
use Rattle.rma_rules.specs.declared.span.Exposure.{Exposure}
use Rattle.rma_rules.specs.declared.span.ExposureKind.{ExposureKind}
use Rattle.rma_rules.specs.declared.span.ExposureKind.TheVariants.{Fenced, Posted}
use Rattle.rma_base.specs.declared.rank.Rank.{Rank}
use Rattle.rma_concurrent.specs.Concurrent.{IsAtTarget}
use Rattle.rma_concurrent.specs.inside.Places.{AreBeside, ClosesRise, is_above, is_behind, is_below, is_beside, is_by, is_in_step, IsBeside, IsNotAfter, kind_place, Rise}

-- ---- the order of four numbers

number_not_less : (x y : ℕ) → is_lt (nat_cmp y x) ≡ false → x ≤ y
number_not_less x y e = grind (arith, nat_tests)

then_not_less : (a b : Ordering) → is_lt (ordering_then a b) ≡ false → (is_lt a ≡ false) × (a ≡ Equal → is_lt b ≡ false)
then_not_less Less b e = absurd (cc)
then_not_less Equal b e = (refl, λ same. e)
then_not_less Greater b e = (refl, λ same. absurd (cc))

then_equal : (a b : Ordering) → a ≡ Equal → b ≡ Equal → ordering_then a b ≡ Equal
then_equal a b one two = ap (λ o. ordering_then o b) one ∙ two

tied : (x y : ℕ) → x ≡ y → nat_cmp y x ≡ Equal
tied x y same = ap (λ z. nat_cmp y z) same ∙ tied_itself nat_cmp_total y

abbrev pub Key : Type 0
Key = ℕ × ℕ × ℕ × ℕ

abbrev pub key_of : Exposure → Key
key_of own = (own.window.0, own.target.0, kind_place own.kind, own.opener)

abbrev pub key_order : Key → Key → Ordering
key_order x y = ordering_then (ordering_then (ordering_then (nat_cmp x.0 y.0) (nat_cmp x.1 y.1)) (nat_cmp x.2 y.2)) (nat_cmp x.3 y.3)

key_total : IsTotalOrder key_order
key_total =
    then_total
    (then_total (then_total (on_total (λ (k : Key). k.0) nat_cmp_total) (on_total (λ (k : Key). k.1) nat_cmp_total)) (on_total (λ (k : Key). k.2) nat_cmp_total))
    (on_total (λ (k : Key). k.3) nat_cmp_total)

not_after : (a b : Exposure) → is_lt (key_order (key_of b) (key_of a)) ≡ false → IsNotAfter a b
not_after a b e =
    let w = nat_cmp b.window.0 a.window.0 in
    let t = nat_cmp b.target.0 a.target.0 in
    let k = nat_cmp (kind_place b.kind) (kind_place a.kind) in
    let o = nat_cmp b.opener a.opener in
    let four = then_not_less (ordering_then (ordering_then w t) k) o e in
    let three = then_not_less (ordering_then w t) k four.0 in
    let two = then_not_less w t three.0 in
    record {
      windows = number_not_less a.window.0 b.window.0 two.0;
      targets = λ one. number_not_less a.target.0 b.target.0 (two.1 (tied a.window.0 b.window.0 one));
      kinds = λ one both. number_not_less (kind_place a.kind) (kind_place b.kind) (three.1 (then_equal w t (tied a.window.0 b.window.0 one) (tied a.target.0 b.target.0 both)));
      openers = λ one both all.
          number_not_less a.opener b.opener
          (four.1 (then_equal (ordering_then w t) k (then_equal w t (tied a.window.0 b.window.0 one) (tied a.target.0 b.target.0 both)) (tied (kind_place a.kind) (kind_place b.kind) all)));
    }

pub rise_from_sort : (list : List Exposure) → IsSortedByKey key_of key_order list → Rise list
rise_from_sort list sorted i j a b le here there =
    let far = sorted_far (λ x y. is_lt (key_order (key_of x) (key_of y))) (ranks_by key_total key_of) list sorted i j a le (slice_get_within list j b there) in
    let first : get_or list i a ≡ a = get_or_from_slice_get list i a a here in
    let second : get_or list j a ≡ b = get_or_from_slice_get list j b a there in
    not_after a b (subst (λ y. is_lt (key_order (key_of y) (key_of a)) ≡ false) second (subst (λ x. is_lt (key_order (key_of (get_or list j a)) (key_of x)) ≡ false) first far))

-- ---- the exposures of a window at some targets

below_before : (window : ℕ) (target : Option Rank) (a b : Exposure) → IsNotAfter a b → is_below window target b ≡ true → is_below window target a ≡ true
below_before window None a b so test = let windows = so.windows in grind (arith, nat_tests)
below_before window (Some target) a b so test = let windows = so.windows in let targets = so.targets in grind (arith, nat_tests)

above_after : (window : ℕ) (target : Option Rank) (a b : Exposure) → IsNotAfter a b → is_above window target a ≡ true → is_above window target b ≡ true
above_after window None a b so test = let windows = so.windows in grind (arith, nat_tests)
above_after window (Some target) a b so test = let windows = so.windows in let targets = so.targets in grind (arith, nat_tests)

none_below : (window : ℕ) (target : Option Rank) (own : Exposure) → is_below window target own ≡ true → own.window.0 ≡ window → IsAtTarget target own.target → ⊥
none_below window None own test same at = grind (arith, nat_tests)
none_below window (Some target) own test same at = let here = ap (λ (rank : Rank). rank.0) at in grind (arith, nat_tests)

none_above : (window : ℕ) (target : Option Rank) (own : Exposure) → is_above window target own ≡ true → own.window.0 ≡ window → IsAtTarget target own.target → ⊥
none_above window None own test same at = grind (arith, nat_tests)
none_above window (Some target) own test same at = let here = ap (λ (rank : Rank). rank.0) at in grind (arith, nat_tests)

abbrev pub is_up_to : ℕ → Option Rank → Exposure → Bool
is_up_to window target own = not (is_above window target own)

module _ (list : List Exposure) (rise : Rise list) (window : ℕ) (target : Option Rank) where
  not_after_at : (i j : ℕ) (d : Exposure) → i ≤ j → j < length list → IsNotAfter (get_or list i d) (get_or list j d)
  not_after_at i j d le lt = rise i j (get_or list i d) (get_or list j d) le (slice_get-get_or list i d (omega arith)) (slice_get-get_or list j d lt)

  pub below_first : IsPartitionedBy (is_below window target) list
  below_first i j d le lt test = below_before window target (get_or list i d) (get_or list j d) (not_after_at i j d le lt) test

  pub up_to_first : IsPartitionedBy (is_up_to window target) list
  up_to_first i j d le lt test = by (is_above window target (get_or list i d)) refl
    where
      by : (b : Bool) → is_above window target (get_or list i d) ≡ b → is_up_to window target (get_or list i d) ≡ true
      by true is = absurd (let no = above_after window target (get_or list i d) (get_or list j d) (not_after_at i j d le lt) is in cc)
      by false is = ap not is

  pub in_range : (start end : ℕ) → IsPartitionPoint (λ own. is_below window target own ≡ true) (λ own. is_below window target own ≡ false) list start
      → IsPartitionPoint (λ own. is_up_to window target own ≡ true) (λ own. is_up_to window target own ≡ false) list end
      → (k : ℕ) (own : Exposure) → slice_get list k ≡ Some own → own.window.0 ≡ window → IsAtTarget target own.target → (start ≤ k) × (k < end)
  in_range start end first second k own at same here =
      let within = slice_get_within list k own at in
      let is : get_or list k own ≡ own = get_or_from_slice_get list k own own at in (
        ⊎_elim
            (λ (before : k < start). absurd (none_below window target own (subst (λ (e : Exposure). is_below window target e ≡ true) is (first.0 k own (omega arith) before)) same here))
            (λ (after : start ≤ k). after)
            (cases_lt k start),
        ⊎_elim
            (λ (before : k < end). before)
            (λ (after : end ≤ k).
            let test = subst (λ (e : Exposure). is_up_to window target e ≡ false) is (second.1 k own after within) in
            absurd (none_above window target own (by (is_above window target own) refl test) same here))
            (cases_lt k end),
      )
    where
      by : (b : Bool) → is_above window target own ≡ b → is_up_to window target own ≡ false → is_above window target own ≡ true
      by true is test = is
      by false is test = absurd (let yes = ap not is in cc)

-- ---- exposures side by side

same_kind : (a b : ExposureKind) → kind_place a ≡ kind_place b → a ≡ b
same_kind Posted Posted e = refl
same_kind Posted Fenced e = absurd (omega (arith, e))
same_kind Fenced Posted e = absurd (omega (arith, e))
same_kind Fenced Fenced e = refl

beside_by : (a b : Exposure) → a.window.0 ≡ b.window.0 → a.target.0 ≡ b.target.0 → kind_place a.kind ≡ kind_place b.kind → IsBeside a b
beside_by a b window target kind = record { window = λ k. record { 0 = window k }; target = λ k. record { 0 = target k }; kind = same_kind a.kind b.kind kind }

pub turned : (a b : Exposure) → IsBeside a b → IsBeside b a
turned a b so = record { window = sym so.window; target = sym so.target; kind = sym so.kind }

joined : (a b c : Exposure) → IsBeside a b → IsBeside b c → IsBeside a c
joined a b c one two = record { window = one.window ∙ two.window; target = one.target ∙ two.target; kind = one.kind ∙ two.kind }

module _ (a b : Exposure) (so : IsBeside a b) where
  same_window : a.window.0 ≡ b.window.0
  same_window = ap (λ (w : WindowId). w.0) so.window

  same_target : a.target.0 ≡ b.target.0
  same_target = ap (λ (t : Rank). t.0) so.target

  same_place : kind_place a.kind ≡ kind_place b.kind
  same_place = ap kind_place so.kind

  pub opened_later : IsNotAfter a b → a.opener ≤ b.opener
  opened_later order = order.openers same_window same_target same_place

  tells_beside : is_beside a b ≡ true
  tells_beside = let w = same_window in let t = same_target in let k = same_place in grind (arith, nat_tests)

beside_from : (a b : Exposure) → IsNotAfter a b → is_behind a b ≡ false → IsBeside a b
beside_from a b so test =
    let windows = so.windows in
    let targets = so.targets in
    let kinds = so.kinds in
    let window : a.window.0 ≡ b.window.0 = grind (arith, nat_tests) in
    let target : a.target.0 ≡ b.target.0 = grind (arith, nat_tests) in
    let kind : kind_place a.kind ≡ kind_place b.kind = grind (arith, nat_tests) in
    beside_by a b window target kind

between : (a m b : Exposure) → IsNotAfter a m → IsNotAfter m b → IsBeside a b → IsBeside a m
between a m b first second so =
    let w = same_window a b so in
    let t = same_target a b so in
    let k = same_place a b so in
    let w1 = first.windows in
    let w2 = second.windows in
    let window : a.window.0 ≡ m.window.0 = omega arith in
    let window_too : m.window.0 ≡ b.window.0 = omega arith in
    let t1 = first.targets window in
    let t2 = second.targets window_too in
    let target : a.target.0 ≡ m.target.0 = omega arith in
    let target_too : m.target.0 ≡ b.target.0 = omega arith in
    let k1 = first.kinds window target in
    let k2 = second.kinds window_too target_too in
    let kind : kind_place a.kind ≡ kind_place m.kind = omega arith in
    beside_by a m window target kind

behind_after : (of a b : Exposure) → IsNotAfter a b → is_behind of a ≡ true → is_behind of b ≡ true
behind_after of a b so test = let windows = so.windows in let targets = so.targets in let kinds = so.kinds in grind (arith, nat_tests)

not_behind_itself : (of : Exposure) → is_behind of of ≡ true → ⊥
not_behind_itself of test = grind (arith, nat_tests)

abbrev pub is_near : Exposure → Exposure → Bool
is_near of own = not (is_behind of own)

tested : (b : Bool) → not b ≡ true → b ≡ false
tested true e = absurd (cc)
tested false e = refl

refuted : (b : Bool) → not b ≡ false → b ≡ true
refuted true e = refl
refuted false e = absurd (cc)

module _ (list : List Exposure) (rise : Rise list) where
  pub near_first : (of : Exposure) → IsPartitionedBy (is_near of) list
  near_first of i j d le lt test = by (is_behind of (get_or list i d)) refl
    where
      by : (b : Bool) → is_behind of (get_or list i d) ≡ b → is_near of (get_or list i d) ≡ true
      by true is =
          let order = rise i j (get_or list i d) (get_or list j d) le (slice_get-get_or list i d (omega arith)) (slice_get-get_or list j d lt) in
          absurd (let yes = behind_after of (get_or list i d) (get_or list j d) order is in let no = tested (is_behind of (get_or list j d)) test in cc)
      by false is = ap not is

  module _ (of : Exposure) (first behind : ℕ) (at : slice_get list first ≡ Some of) (point : IsPartitionPoint (λ own. is_near of own ≡ true) (λ own. is_near of own ≡ false) list behind) where
    pub goes_on : first < behind
    goes_on =
        ⊎_elim
        (λ (before : first < behind). before)
        (λ (after : behind ≤ first).
        let is : get_or list first of ≡ of = get_or_from_slice_get list first of of at in
        let test = subst (λ (e : Exposure). is_near of e ≡ false) is (point.1 first of after (slice_get_within list first of at)) in
        absurd (not_behind_itself of (refuted (is_behind of of) test)))
        (cases_lt first behind)

    beside_first : (k : ℕ) (own : Exposure) → first ≤ k → k < behind → slice_get list k ≡ Some own → IsBeside of own
    beside_first k own from below here =
        let is : get_or list k own ≡ own = get_or_from_slice_get list k own own here in
        let test = subst (λ (e : Exposure). is_near of e ≡ true) is (point.0 k own (omega arith) below) in
        beside_from of own (rise first k of own from at here) (tested (is_behind of own) test)

    pub all_beside : AreBeside list first behind
    all_beside i j a b from_i below_i from_j below_j here there =
        joined a of b (turned of a (beside_first i a from_i below_i here)) (beside_first j b from_j below_j there)

-- ---- the calls that close them

by_itself : (a : Option ℕ) → is_by a a ≡ true
by_itself None = refl
by_itself (Some a) = grind (arith, nat_tests)

pub by_both : (a b c : Option ℕ) → is_by a b ≡ true → is_by b c ≡ true → is_by a c ≡ true
by_both a b None one two = refl
by_both a None (Some c) one two = absurd (cc)
by_both None (Some b) (Some c) one two = absurd (cc)
by_both (Some a) (Some b) (Some c) one two = grind (arith, nat_tests)

pub by_call : (a : Option ℕ) (close : ℕ) → is_by a (Some close) ≡ true → (earlier : ℕ) × (a ≡ Some earlier) × (earlier ≤ close)
by_call None close test = absurd (cc)
by_call (Some a) close test = let le : a ≤ close = grind (arith, nat_tests) in (a, refl, le)

in_step : (a b : Exposure) → IsBeside a b → is_in_step a b ≡ true → is_by a.close b.close ≡ true
in_step a b so test = by (is_beside a b) (tells_beside a b so) test
  where
    by : (t : Bool) → t ≡ true → (not t || is_by a.close b.close) ≡ true → is_by a.close b.close ≡ true
    by true e test = test
    by false e test = absurd (cc)

module _ (list : List Exposure) (rise : Rise list) (steps : AllAdjacentBelow (λ a b. true ≡ is_in_step a b) list (length list)) where
  close_later : (i n : ℕ) (a b : Exposure) → slice_get list i ≡ Some a → slice_get list (i + n) ≡ Some b → IsBeside a b → is_by a.close b.close ≡ true
  close_later i zero a b here there so =
      let again : slice_get list i ≡ Some b = subst (λ k. slice_get list k ≡ Some b) (let e : i + 0 ≡ i = omega arith in e) there in
      let same : a ≡ b = cc in
      subst (λ (x : Exposure). is_by a.close x.close ≡ true) same (by_itself a.close)
  close_later i (suc n) a b here there so =
      let next : i + suc n ≡ i + n + 1 = omega arith in
      let last : slice_get list (i + n + 1) ≡ Some b = subst (λ k. slice_get list k ≡ Some b) next there in
      let within = slice_get_within list (i + n + 1) b last in
      let m = get_or list (i + n) b in
      let middle : slice_get list (i + n) ≡ Some m = slice_get-get_or list (i + n) b (omega arith) in
      let first_order = rise i (i + n) a m (omega arith) here middle in
      let second_order = rise (i + n) (i + n + 1) m b (omega arith) middle last in
      let beside = between a m b first_order second_order so in
      let also = joined m a b (turned a m beside) so in
      let step = subst (λ (x : Exposure). true ≡ is_in_step m x) (get_or_from_slice_get list (i + n + 1) b b last) (steps (i + n) b within) in
      by_both a.close m.close b.close (close_later i n a m here middle beside) (in_step m b also (sym step))

  pub closes_rise : ClosesRise list
  closes_rise i j a b le here there so =
      let far : i + (j - i) ≡ j = omega arith in
      close_later i (j - i) a b here (subst (λ k. slice_get list k ≡ Some b) (sym far) there) so
