use Rattle.std.proofs.Common.{◌≡◌, ℕ, ◌*◌, ◌+◌, ◌-◌, ◌^◌, ◌<◌, ◌≤◌, true, ℤ, pos, ◌*ℤ◌, List, length, drop, get_or, sym, ap, arith, to_z, of_z}
use Rattle.rma_typemap.proofs.Words.{w128, mul-le-mul_right, address_limit, Cut, Dimension, Order, list_all, IsNear, is_part, cuts_of, whole_of_cuts, ints}
use Rattle.rma_typemap.proofs.IntegerLemmas.{mul_assoc}
use Rattle.rma_typemap.proofs.NearLemmas.{near_wider, near_count, IsNearby_wider, IsSound_displaced, IsSound_repeated, entries_repeated}
use Rattle.rma_typemap.proofs.ArrayLemmas.{AreCuts_cuts_of, length_cuts_of, next_rest, rest_none, rest_is_less, row_near}
use Rattle.rma_typemap.proofs.WideLemmas.{near_kept}
use Rattle.rma_typemap.proofs.array.part.Goals as goal

one_stride : (e : ℤ) → e ≡ pos 1 *ℤ e
one_stride e = omega (arith, ints)

pub loop-k-init : goal.loop-k-init
loop-k-init c =
    let none = rest_none (cuts_of c.args.order c.args.dimensions.now) (length c.args.dimensions.now) (length_cuts_of c.args.order c.args.dimensions.now) in
    record {
      value = rw none;
      stride = rw none (one_stride _);
      near = IsNearby_wider address_limit _ c.args.old.now (omega arith) c.requires.near;
      sound = c.requires.sound;
      entries = rw none (omega arith);
    }

pub row-part-requires-clause-near : goal.row-part-requires-clause-near
row-part-requires-clause-near c =
    let le = (rest_is_less (cuts_of c.args.order c.args.dimensions.now) (length c.args.dimensions.now - c.loop-k.k) (AreCuts_cuts_of c.args.order c.args.dimensions.now c.requires.parts)).0 in
    let small = c.requires.small in
    IsNearby_wider _ (2 ^ 100) c.loop-k.part (omega arith) c.loop-k.invariant.near

-- how far as many elements as the cuts have reach
distance_near : (n : ℕ) (e : ℤ) → n ≤ address_limit → IsNear (2 ^ 50) e → IsNear (2 ^ 98) (pos n *ℤ to_z w128 (of_z w128 e))
distance_near n e few near =
    let same = near_kept e (near_wider (2 ^ 50) (2 ^ 121) e (omega arith) near) in
    rw same (near_wider (address_limit * 2 ^ 50) (2 ^ 98) (pos n *ℤ e) (omega arith) (near_count address_limit (2 ^ 50) n e few near))

pub row-part-requires-clause-stride_near : goal.row-part-requires-clause-stride_near
row-part-requires-clause-stride_near c =
    let le = (rest_is_less (cuts_of c.args.order c.args.dimensions.now) (length c.args.dimensions.now - c.loop-k.k) (AreCuts_cuts_of c.args.order c.args.dimensions.now c.requires.parts)).0 in
    let small = c.requires.small in
    rw c.loop-k.invariant.stride (near_wider (2 ^ 98) (2 ^ 99) _ (omega arith) (distance_near _ c.args.extent (omega arith) c.requires.extent_near))

-- how far the whole of the next cuts reaches
next_distance : (order : Order) (ds : List Dimension) (k : ℕ) (cut : Cut) (e stride : ℤ) → list_all is_part ds ≡ true → whole_of_cuts (cuts_of order ds) ≤ address_limit → IsNear (2 ^ 50) e →
    k < length ds → cut ≡ get_or (cuts_of order ds) (length ds - 1 - k) cut → stride ≡ pos (whole_of_cuts (drop (length ds - k) (cuts_of order ds))) *ℤ to_z w128 (of_z w128 e) →
    IsNear (2 ^ 98) (pos cut.whole *ℤ stride)
next_distance order ds k cut e stride parts small near test at is =
    let le = (rest_is_less (cuts_of order ds) (length ds - (k + 1)) (AreCuts_cuts_of order ds parts)).0 in
    let all = ap whole_of_cuts (next_rest order ds k cut test at) in
    rw (is, ← mul_assoc (pos cut.whole) (pos (whole_of_cuts (drop (length ds - k) (cuts_of order ds)))) (to_z w128 (of_z w128 e))) (distance_near (cut.whole * whole_of_cuts (drop (length ds - k) (cuts_of order ds))) e (omega arith) near)

pub row-part-requires-clause-distance_near : goal.row-part-requires-clause-distance_near
row-part-requires-clause-distance_near c =
    near_wider (2 ^ 98) (2 ^ 99) _ (omega arith)
    (next_distance c.args.order c.args.dimensions.now c.loop-k.k c.nth_fastest-cut.result c.args.extent _ c.requires.parts c.requires.small c.requires.extent_near (omega arith) c.nth_fastest-cut.ensures.value c.loop-k.invariant.stride)

pub row-part-requires-clause-few : goal.row-part-requires-clause-few
row-part-requires-clause-few c =
    let ds = c.args.dimensions.now in
    let shape = next_rest c.args.order ds c.loop-k.k c.nth_fastest-cut.result (omega arith) c.nth_fastest-cut.ensures.value in
    let le = mul-le-mul_right c.args.old.now.entries (rest_is_less (cuts_of c.args.order ds) (length ds - (c.loop-k.k + 1)) (AreCuts_cuts_of c.args.order ds c.requires.parts)).1 in
    rw c.loop-k.invariant.entries (omega (arith, rw shape at le, c.requires.few))

pub product-stride-requires : goal.product-stride-requires
product-stride-requires c =
    near_wider (2 ^ 98) (2 ^ 120) _ (omega arith)
    (next_distance c.args.order c.args.dimensions.now c.loop-k.k c.nth_fastest-cut.result c.args.extent _ c.requires.parts c.requires.small c.requires.extent_near (omega arith) c.nth_fastest-cut.ensures.value c.loop-k.invariant.stride)

pub loop-k-preserved : goal.loop-k-preserved
loop-k-preserved c =
    let e = to_z w128 (of_z w128 c.args.extent) in
    let ds = c.args.dimensions.now in
    let k = c.loop-k.k in
    let cut = c.nth_fastest-cut.result in
    let stride = to_z w128 c.loop-k.stride-bits in
    let w = whole_of_cuts (drop (length ds - k) (cuts_of c.args.order ds)) in
    let shape = next_rest c.args.order ds k cut (omega arith) c.nth_fastest-cut.ensures.value in
    let is = c.loop-k.invariant.stride in
    let near_e : IsNear (2 ^ 50) e = rw (near_kept c.args.extent (near_wider (2 ^ 50) (2 ^ 121) c.args.extent (omega arith) c.requires.extent_near)) c.requires.extent_near in
    let stride_near : IsNear (w * 2 ^ 50) stride = rw is (near_count w (2 ^ 50) w e (omega arith) near_e) in
    let distance = next_distance c.args.order ds k cut c.args.extent stride c.requires.parts c.requires.small c.requires.extent_near (omega arith) c.nth_fastest-cut.ensures.value is in
    let kept = near_kept (pos cut.whole *ℤ stride) (near_wider (2 ^ 98) (2 ^ 121) (pos cut.whole *ℤ stride) (omega arith) distance) in
    let fits = c.nth_fastest-cut.ensures.sound in
    let row = row_near address_limit (w * 2 ^ 50) cut.part cut.start cut.whole stride c.loop-k.part fits.some fits.within stride_near c.loop-k.invariant.near in
    record {
      value = rw (c.row-part.ensures, shape, c.loop-k.invariant.value, is);
      stride = rw (c.product-stride.ensures, kept, is, shape) (sym (mul_assoc (pos cut.whole) (pos w) e));
      near = rw (shape, c.row-part.ensures) (IsNearby_wider _ _ _ (omega arith) row);
      sound = rw c.row-part.ensures (IsSound_displaced _ _ (IsSound_repeated cut.part stride c.loop-k.part c.loop-k.invariant.sound));
      entries = rw (c.row-part.ensures, shape, entries_repeated, c.loop-k.invariant.entries) (omega arith);
    }
