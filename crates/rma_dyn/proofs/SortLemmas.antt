-- The order of attaches and detaches.
use Rattle.std.proofs.Common.{◌≡◌, ◌+◌, ◌<◌, ◌≤◌, ℕ, Bool, true, false, List, get_or, Some, slice_get, refl, ap, subst, ◌∙◌, arith}
use Rattle.std.specs.Cmp.{IsTotalOrder}
use Rattle.std.specs.List.Sorted.{IsPartitionedBy, IsPartitionPoint, IsSortedByKey}
use Rattle.std.specs.Ordering.{is_lt, nat_cmp, ordering_then}
use Rattle.std.specs.declared.cmp.Ordering.{Ordering}
use Rattle.std.specs.declared.cmp.Ordering.TheVariants.{Less, Equal, Greater}
use Rattle.std.proofs.lemmas.Bool.Decides.{nat_tests}
use Rattle.std.proofs.lemmas.Cmp.{nat_cmp_total, on_total, then_total, tied_itself}
use Rattle.std.proofs.lemmas.List.Sorted.{ranks_by, sorted_far}
use Rattle.std.proofs.lemmas.Option.{get_or_from_slice_get, slice_get-get_or, slice_get_within}
use Rattle.rma_rules.specs.declared.span.Owner.{Owner}
use Rattle.rma_dyn.specs.declared.change.Change.{Change}
use Rattle.rma_dyn.specs.inside.Sorted.{IsNotAfter, Rise, is_below, owner_of}

number_not_less : (x y : ℕ) → is_lt (nat_cmp y x) ≡ false → x ≤ y
number_not_less x y e = grind (arith, nat_tests)

then_not_less : (a b : Ordering) → is_lt (ordering_then a b) ≡ false → (is_lt a ≡ false) × (a ≡ Equal → is_lt b ≡ false)
then_not_less Less b e = absurd (cc)
then_not_less Equal b e = (refl, λ same. e)
then_not_less Greater b e = (refl, λ same. absurd (cc))

then_equal : (a b : Ordering) → a ≡ Equal → b ≡ Equal → ordering_then a b ≡ Equal
then_equal a b one two = ap (λ o. ordering_then o b) one ∙ two

tied : (x y : ℕ) → x ≡ y → nat_cmp y x ≡ Equal
tied x y same = ap (λ z. nat_cmp y z) same ∙ tied_itself nat_cmp_total y

abbrev pub Key : Type 0
Key = ℕ × ℕ × ℕ × ℕ

abbrev pub key_of : Change → Key
key_of own = (own.rank.0, own.window.0, own.address, own.call)

abbrev pub key_order : Key → Key → Ordering
key_order x y = ordering_then (ordering_then (ordering_then (nat_cmp x.0 y.0) (nat_cmp x.1 y.1)) (nat_cmp x.2 y.2)) (nat_cmp x.3 y.3)

key_total : IsTotalOrder key_order
key_total =
    then_total
    (then_total (then_total (on_total (λ (k : Key). k.0) nat_cmp_total) (on_total (λ (k : Key). k.1) nat_cmp_total)) (on_total (λ (k : Key). k.2) nat_cmp_total))
    (on_total (λ (k : Key). k.3) nat_cmp_total)

not_after : (a b : Change) → is_lt (key_order (key_of b) (key_of a)) ≡ false → IsNotAfter a b
not_after a b e =
    let r = nat_cmp b.rank.0 a.rank.0 in
    let w = nat_cmp b.window.0 a.window.0 in
    let d = nat_cmp b.address a.address in
    let n = nat_cmp b.call a.call in
    let four = then_not_less (ordering_then (ordering_then r w) d) n e in
    let three = then_not_less (ordering_then r w) d four.0 in
    let two = then_not_less r w three.0 in
    record {
      ranks = number_not_less a.rank.0 b.rank.0 two.0;
      windows = λ one. number_not_less a.window.0 b.window.0 (two.1 (tied a.rank.0 b.rank.0 one));
      addresses = λ one both. number_not_less a.address b.address (three.1 (then_equal r w (tied a.rank.0 b.rank.0 one) (tied a.window.0 b.window.0 both)));
      calls = λ one both all.
          number_not_less a.call b.call (four.1 (then_equal (ordering_then r w) d (then_equal r w (tied a.rank.0 b.rank.0 one) (tied a.window.0 b.window.0 both)) (tied a.address b.address all)));
    }

pub rise_from_sort : (list : List Change) → IsSortedByKey key_of key_order list → Rise list
rise_from_sort list sorted i j a b le here there =
    let far = sorted_far (λ x y. is_lt (key_order (key_of x) (key_of y))) (ranks_by key_total key_of) list sorted i j a le (slice_get_within list j b there) in
    let first : get_or list i a ≡ a = get_or_from_slice_get list i a a here in
    let second : get_or list j a ≡ b = get_or_from_slice_get list j b a there in
    not_after a b (subst (λ y. is_lt (key_order (key_of y) (key_of a)) ≡ false) second (subst (λ x. is_lt (key_order (key_of (get_or list j a)) (key_of x)) ≡ false) first far))

-- ---- where those of a place end

below_before : (owner : Owner) (address call : ℕ) (a b : Change) → IsNotAfter a b → is_below owner address call b ≡ true → is_below owner address call a ≡ true
below_before owner address call a b so test =
    let ranks = so.ranks in
    let windows = so.windows in
    let addresses = so.addresses in
    let calls = so.calls in
    grind (arith, nat_tests)

falls : (x y : Bool) → (y ≡ true → x ≡ true) → x ≡ false → y ≡ false
falls x true f e = absurd (let t = f refl in cc)
falls x false f e = refl

pub above_behind : (owner : Owner) (address call : ℕ) (a b : Change) → IsNotAfter a b → is_below owner address call a ≡ false → is_below owner address call b ≡ false
above_behind owner address call a b so = falls _ _ (below_before owner address call a b so)

-- one that is not behind another stands below the number behind the other's call
pub below_own : (a g : Change) → IsNotAfter a g → is_below (owner_of g) g.address (g.call + 1) a ≡ true
below_own a g so =
    let ranks = so.ranks in
    let windows = so.windows in
    let addresses = so.addresses in
    let calls = so.calls in
    grind (arith, nat_tests)

module _ (list : List Change) (rise : Rise list) (owner : Owner) (address call : ℕ) where
  pub below_first : IsPartitionedBy (is_below owner address call) list
  below_first i j d le lt test =
      below_before owner address call (get_or list i d) (get_or list j d) (rise i j (get_or list i d) (get_or list j d) le (slice_get-get_or list i d (omega arith)) (slice_get-get_or list j d lt)) test

  pub before_point : (end : ℕ) → IsPartitionPoint (λ own. is_below owner address call own ≡ true) (λ own. is_below owner address call own ≡ false) list end
      → (k : ℕ) (own : Change) → k < end → slice_get list k ≡ Some own → is_below owner address call own ≡ true
  before_point end parted k own lt at =
      let within = slice_get_within list k own at in
      let is : get_or list k own ≡ own = get_or_from_slice_get list k own own at in
      subst (λ (e : Change). is_below owner address call e ≡ true) is (parted.0 k own (omega arith) lt)

  pub after_point : (end : ℕ) → IsPartitionPoint (λ own. is_below owner address call own ≡ true) (λ own. is_below owner address call own ≡ false) list end
      → (k : ℕ) (own : Change) → end ≤ k → slice_get list k ≡ Some own → is_below owner address call own ≡ false
  after_point end parted k own le at =
      let within = slice_get_within list k own at in
      let is : get_or list k own ≡ own = get_or_from_slice_get list k own own at in
      subst (λ (e : Change). is_below owner address call e ≡ false) is (parted.1 k own le within)
