-- The order of faults is one.
use Rattle.std.proofs.Common.{◌≡◌, ◌<◌, ℕ, zero, suc, List, [], ◌∷◌, get_or, take, false, Option, Some, None, slice_get, refl, sym, subst, arith}
use Rattle.std.specs.Prelude.{Contains}
use Rattle.std.specs.List.Sorted.{IsSorted}
use Rattle.std.specs.Cmp.{IsTotalOrder}
use Rattle.std.specs.Cmp.Lexicographic.{slice_cmp}
use Rattle.std.specs.Ordering.{is_lt, nat_cmp, ordering_then}
use Rattle.std.specs.declared.cmp.Ordering.{Ordering}
use Rattle.std.specs.declared.cmp.Ordering.TheVariants.{Less, Equal, Greater}
use Rattle.std.proofs.lemmas.Cmp.{nat_cmp_total, nat_list_cmp_total, on_total, ranked, then_total}
use Rattle.std.proofs.lemmas.List.Sorted.{ranks_by, sorted_far}
use Rattle.std.proofs.lemmas.Option.{get_or_from_slice_get, none-some, slice_get_within}
use Rattle.rma_concurrent.proofs.ListLemmas.{place_of}
use Rattle.rma_base.specs.declared.line.LineNo.{LineNo}
use Rattle.rma_base.specs.declared.rank.Rank.{Rank}
use Rattle.rma_concurrent.specs.inside.Places.{IsOrder}
use Rattle.rma_dyn.specs.declared.fault.RegionFault.{RegionFault}
use Rattle.rma_dyn.specs.declared.reason.RegionReason.{RegionReason}
use Rattle.rma_dyn.specs.declared.reason.RegionReason.TheVariants.{AttachOverlap, DetachUnknown, Unattached, DetachUnordered}
use Rattle.rma_dyn.specs.Fault.{fault_order, other_key}
use Rattle.rma_dyn.specs.Reason.{reason_place}

both_equal : (a b : Ordering) → ordering_then a b ≡ Equal → (a ≡ Equal) × (b ≡ Equal)
both_equal Less b e = absurd (cc)
both_equal Equal b e = (refl, e)
both_equal Greater b e = absurd (cc)

same_number : (x y : ℕ) → nat_cmp x y ≡ Equal → x ≡ y
same_number x y e = ranked x y Equal (sym e)

same_text : (xs ys : List ℕ) → slice_cmp nat_cmp xs ys ≡ Equal → xs ≡ ys
same_text [] [] e = refl
same_text [] (y ∷ ys) e = absurd (cc)
same_text (x ∷ xs) [] e = absurd (cc)
same_text (x ∷ xs) (y ∷ ys) e =
    let both = both_equal (nat_cmp x y) (slice_cmp nat_cmp xs ys) e in
    let first = same_number x y both.0 in
    let rest = same_text xs ys both.1 in
    λ k. first k ∷ rest k

same_reason : (a b : RegionReason) → reason_place a ≡ reason_place b → a ≡ b
same_reason AttachOverlap AttachOverlap e = refl
same_reason AttachOverlap DetachUnknown e = absurd (cc)
same_reason AttachOverlap Unattached e = absurd (cc)
same_reason AttachOverlap DetachUnordered e = absurd (cc)
same_reason DetachUnknown AttachOverlap e = absurd (cc)
same_reason DetachUnknown DetachUnknown e = refl
same_reason DetachUnknown Unattached e = absurd (cc)
same_reason DetachUnknown DetachUnordered e = absurd (cc)
same_reason Unattached AttachOverlap e = absurd (cc)
same_reason Unattached DetachUnknown e = absurd (cc)
same_reason Unattached Unattached e = refl
same_reason Unattached DetachUnordered e = absurd (cc)
same_reason DetachUnordered AttachOverlap e = absurd (cc)
same_reason DetachUnordered DetachUnknown e = absurd (cc)
same_reason DetachUnordered Unattached e = absurd (cc)
same_reason DetachUnordered DetachUnordered e = refl

same_other : (a b : Option (Rank × LineNo)) → other_key a ≡ other_key b → a ≡ b
same_other None None e = refl
same_other None (Some y) e = absurd (cc)
same_other (Some x) None e = absurd (cc)
same_other (Some x) (Some y) e =
    let rank : x.0.0 ≡ y.0.0 = cc in
    let line : x.1.0 ≡ y.1.0 = cc in
    λ k. Some (record { 0 = rank k }, record { 0 = line k })

fault_total : IsTotalOrder fault_order
unfolding fault_order
fault_total =
    then_total
    (then_total (then_total (on_total (λ (f : RegionFault). reason_place f.reason) nat_cmp_total) (on_total (λ (f : RegionFault). f.rank.0) nat_cmp_total)) (on_total (λ (f : RegionFault). f.line.0) nat_cmp_total))
    (on_total (λ (f : RegionFault). other_key f.other) nat_list_cmp_total)

pub fault_ties : (f g : RegionFault) → fault_order f g ≡ Equal → f ≡ g
unfolding fault_order
fault_ties f g e =
    let four = both_equal _ _ e in
    let three = both_equal _ _ four.0 in
    let two = both_equal _ _ three.0 in
    let reason = same_reason f.reason g.reason (same_number _ _ two.0) in
    let rank = same_number f.rank.0 g.rank.0 two.1 in
    let line = same_number f.line.0 g.line.0 three.1 in
    let other = same_other f.other g.other (same_text (other_key f.other) (other_key g.other) four.1) in
    λ k. record { reason = reason k; rank = record { 0 = rank k }; line = record { 0 = line k }; other = other k }

pub fault_is_order : IsOrder fault_order
fault_is_order = record { total = fault_total; ties = fault_ties }

-- an element of the first ones, so many, stands there in the whole list
taken_from : (list : List RegionFault) (n k : ℕ) (y : RegionFault) → slice_get (take n list) k ≡ Some y → (k < n) × (slice_get list k ≡ Some y)
taken_from [] zero k y at = absurd (none-some y at)
taken_from [] (suc n) k y at = absurd (none-some y at)
taken_from (z ∷ zs) zero k y at = absurd (none-some y at)
taken_from (z ∷ zs) (suc n) zero y at = (omega arith, at)
taken_from (z ∷ zs) (suc n) (suc k) y at = let rest = taken_from zs n k y at in (omega (arith, rest.0), rest.1)

-- in a sorted list, those before an element do not come behind it
pub none_behind : (list : List RegionFault) → IsSorted fault_order list → (i : ℕ) (x : RegionFault) → slice_get list i ≡ Some x → (y : RegionFault) → Contains (take i list) y → is_lt (fault_order x y) ≡ false
none_behind list sorted i x at y has =
    let place = place_of (take i list) y has in
    let there = taken_from list i place.0 y place.1 in
    let far = sorted_far (λ a b. is_lt (fault_order a b)) (ranks_by fault_is_order.total (λ (a : RegionFault). a)) list sorted place.0 i x (omega (arith, there.0)) (slice_get_within list i x at) in
    let first : get_or list place.0 x ≡ y = get_or_from_slice_get list place.0 y x there.1 in
    let second : get_or list i x ≡ x = get_or_from_slice_get list i x x at in
    subst (λ z. is_lt (fault_order z y) ≡ false) second (subst (λ z. is_lt (fault_order (get_or list i x) z) ≡ false) first far)
