-- Reports sorted by their numbers are sorted.
use Rattle.std.proofs.Common.{◌≡◌, ◌+◌, ℕ, false, List, get_or, refl, subst}
use Rattle.std.specs.List.Sorted.{IsSorted, IsSortedByKey}
use Rattle.std.specs.Ordering.{is_lt, nat_cmp, ordering_then}
use Rattle.std.specs.declared.cmp.Ordering.{Ordering}
use Rattle.std.specs.declared.cmp.Ordering.TheVariants.{Less, Equal, Greater}
use Rattle.rma_assert.specs.declared.assertion.BrokenAssertion.{BrokenAssertion}
use Rattle.rma_assert.specs.Broken.{assertion_order}
use Rattle.rma_assert.specs.Reason.{reason_place}

abbrev pub Key : Type 0
Key = ℕ × ℕ × ℕ × ℕ × ℕ

abbrev pub key_of : BrokenAssertion → Key
key_of own = (reason_place own.reason, own.rank.0, own.line.0, own.other.0.0, own.other.1.0)

abbrev pub key_order : Key → Key → Ordering
key_order x y = ordering_then (ordering_then (ordering_then (ordering_then (nat_cmp x.0 y.0) (nat_cmp x.1 y.1)) (nat_cmp x.2 y.2)) (nat_cmp x.3 y.3)) (nat_cmp x.4 y.4)

regrouped : (a b c : Ordering) → ordering_then (ordering_then a b) c ≡ ordering_then a (ordering_then b c)
regrouped Less b c = refl
regrouped Equal b c = refl
regrouped Greater b c = refl

same_order : (f g : BrokenAssertion) → key_order (key_of f) (key_of g) ≡ assertion_order f g
same_order f g =
    regrouped (ordering_then (ordering_then (nat_cmp (reason_place f.reason) (reason_place g.reason)) (nat_cmp f.rank.0 g.rank.0)) (nat_cmp f.line.0 g.line.0)) (nat_cmp f.other.0.0 g.other.0.0) (nat_cmp f.other.1.0 g.other.1.0)

pub sorted_by_key : (list : List BrokenAssertion) → IsSortedByKey key_of key_order list → IsSorted assertion_order list
sorted_by_key list sorted k d from within =
    subst (λ o. is_lt o ≡ false) (same_order (get_or list (k + 1) d) (get_or list k d)) (sorted k d from within)
