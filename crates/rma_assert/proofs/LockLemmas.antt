-- Lock epochs, and others that may be held at once.
use Rattle.std.proofs.Common.{◌<◌, ◌≤◌, Bool, false, nat_lt, nat_le, get_or, length, slice_get, subst, arith, ⊎_elim}
use Rattle.std.specs.List.Sorted.{IsPartitionedBy, IsPartitionPoint, IsPermutation, IsSortedByKey}
use Rattle.std.specs.Ordering.{is_lt, nat_cmp}
use Rattle.std.proofs.lemmas.Bool.{cases_lt}
use Rattle.std.proofs.lemmas.Bool.Decides.{nat_tests}
use Rattle.std.proofs.lemmas.Cmp.{nat_cmp_total}
use Rattle.std.proofs.lemmas.List.Sorted.{Contains-permutation, IsPermutation-sym, ranks_by, sorted_far}
use Rattle.std.proofs.lemmas.Option.{get_or_from_slice_get, slice_get-get_or, slice_get_within}
use Rattle.rma_assert.specs.inside.Held.{WindowsRise}
use Rattle.std.proofs.Common.{◌≡◌, ℕ, true, List, Some}
use Rattle.std.specs.Prelude.{Contains}
use Rattle.rma_call.specs.Call.{Call}
use Rattle.rma_link.specs.declared.links.Links.{Links}
use Rattle.rma_rules.specs.declared.span.LockSpan.{LockSpan}
use Rattle.rma_concurrent.specs.inside.Places.{HasMore}
use Rattle.rma_concurrent.proofs.ListLemmas.{more_none, more_same}
use Rattle.rma_assert.specs.declared.assertion.BrokenAssertion.{BrokenAssertion}
use Rattle.rma_assert.specs.declared.locks.Locking.{Locking}
use Rattle.rma_assert.specs.Locks.{IsLockBroken, IsLockedBeside, locking_at}

-- what is found of a lock epoch and some other
abbrev pub IsOfLock : Links → (ℕ → List Call) → List LockSpan → LockSpan → BrokenAssertion → Type 0
IsOfLock links calls locks own found = (other : LockSpan) × Contains locks other × IsLockedBeside links calls own other found

-- a lock epoch whose call does not say `nocheck`
pub not_said : (links : Links) (calls : ℕ → List Call) (locks : List LockSpan) (own : LockSpan) → ((kind : Locking) → locking_at calls own ≡ Some kind → kind.nocheck ≡ true → ⊥) → (a : List BrokenAssertion)
    → HasMore (IsOfLock links calls locks own) a a
not_said links calls locks own none a = more_none a (λ x (other, has, found). none found.kind found.kind_is found.says)

-- ---- lock epochs by window

not_less : (x y : ℕ) → is_lt (nat_cmp y x) ≡ false → x ≤ y
not_less x y e = grind (arith, nat_tests)

pub rise_from_sort : (list : List LockSpan) → IsSortedByKey (λ (own : LockSpan). own.window.0) nat_cmp list → WindowsRise list
rise_from_sort list sorted i j a b le here there =
    let far = sorted_far (λ x y. is_lt (nat_cmp x.window.0 y.window.0)) (ranks_by nat_cmp_total (λ (own : LockSpan). own.window.0)) list sorted i j a le (slice_get_within list j b there) in
    let first : get_or list i a ≡ a = get_or_from_slice_get list i a a here in
    let second : get_or list j a ≡ b = get_or_from_slice_get list j b a there in
    not_less a.window.0 b.window.0
    (subst (λ (y : LockSpan). is_lt (nat_cmp y.window.0 a.window.0) ≡ false) second (subst (λ (x : LockSpan). is_lt (nat_cmp (get_or list j a).window.0 x.window.0) ≡ false) first far))

abbrev pub is_below : ℕ → LockSpan → Bool
is_below window own = nat_lt own.window.0 window

abbrev pub is_up_to : ℕ → LockSpan → Bool
is_up_to window own = nat_le own.window.0 window

module _ (list : List LockSpan) (rise : WindowsRise list) (window : ℕ) where
  at_most : (i j : ℕ) (d : LockSpan) → i ≤ j → j < length list → (get_or list i d).window.0 ≤ (get_or list j d).window.0
  at_most i j d le lt = rise i j (get_or list i d) (get_or list j d) le (slice_get-get_or list i d (omega arith)) (slice_get-get_or list j d lt)

  pub below_first : IsPartitionedBy (is_below window) list
  below_first i j d le lt test = let order = at_most i j d le lt in grind (arith, nat_tests)

  pub up_to_first : IsPartitionedBy (is_up_to window) list
  up_to_first i j d le lt test = let order = at_most i j d le lt in grind (arith, nat_tests)

  pub in_range : (start end : ℕ) → IsPartitionPoint (λ own. is_below window own ≡ true) (λ own. is_below window own ≡ false) list start
      → IsPartitionPoint (λ own. is_up_to window own ≡ true) (λ own. is_up_to window own ≡ false) list end → (k : ℕ) (own : LockSpan) → slice_get list k ≡ Some own → own.window.0 ≡ window
      → (start ≤ k) × (k < end)
  in_range start end first second k own at same =
      let within = slice_get_within list k own at in
      let is : get_or list k own ≡ own = get_or_from_slice_get list k own own at in (
        ⊎_elim
            (λ (before : k < start). absurd (let test = subst (λ (e : LockSpan). is_below window e ≡ true) is (first.0 k own (omega arith) before) in let less : own.window.0 < window = grind (arith, nat_tests) in omega arith))
            (λ (after : start ≤ k). after)
            (cases_lt k start),
        ⊎_elim
            (λ (before : k < end). before)
            (λ (after : end ≤ k). absurd (let test = subst (λ (e : LockSpan). is_up_to window e ≡ false) is (second.1 k own after within) in let more : window < own.window.0 = grind (arith, nat_tests) in omega arith))
            (cases_lt k end),
      )

-- what is found of a list is found of one with the same lock epochs
pub more_of_locks : (links : Links) (calls : ℕ → List Call) (locks list : List LockSpan) → IsPermutation locks list → (a b : List BrokenAssertion) → HasMore (IsLockBroken links calls list) a b
    → HasMore (IsLockBroken links calls locks) a b
more_of_locks links calls locks list moved a b more =
    let turned = IsPermutation-sym locks list moved in
    more_same a b more
    (λ x (own, has, (other, also, is)). (own, Contains-permutation list locks own turned has, (other, Contains-permutation list locks other turned also, is)))
    (λ x (own, has, (other, also, is)). (own, Contains-permutation locks list own moved has, (other, Contains-permutation locks list other moved also, is)))
