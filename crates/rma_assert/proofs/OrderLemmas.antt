-- The order of reports is one.
use Rattle.std.proofs.Common.{◌≡◌, ℕ, zero, suc, true, refl, sym, ap, ◌∙◌, arith}
use Rattle.std.specs.Cmp.{IsTotalOrder}
use Rattle.std.specs.Ordering.{nat_cmp, ordering_then}
use Rattle.std.specs.declared.cmp.Ordering.{Ordering}
use Rattle.std.specs.declared.cmp.Ordering.TheVariants.{Less, Equal, Greater}
use Rattle.std.proofs.lemmas.Bool.Decides.{nat_tests}
use Rattle.std.proofs.lemmas.Cmp.{nat_cmp_total, on_total, ranked, then_total, tied_itself}
use Rattle.rma_concurrent.specs.inside.Places.{IsOrder}
use Rattle.rma_assert.specs.declared.assertion.AssertionReason.{AssertionReason}
use Rattle.rma_assert.specs.declared.assertion.AssertionReason.TheVariants.{NocheckAlone, NocheckUnordered, Nostore, Noput, NocheckLock}
use Rattle.rma_assert.specs.declared.assertion.BrokenAssertion.{BrokenAssertion}
use Rattle.rma_assert.specs.Broken.{assertion_order, call_order, other_order}
use Rattle.rma_assert.specs.Reason.{reason_place}
use Rattle.rma_assert.specs.inside.Gathered.{is_same_call}

-- ---- reasons by their places

reason_at : ℕ → AssertionReason
reason_at zero = NocheckAlone
reason_at (suc zero) = NocheckUnordered
reason_at (suc (suc zero)) = Nostore
reason_at (suc (suc (suc zero))) = Noput
reason_at (suc (suc (suc (suc n)))) = NocheckLock

at_place_is : (r : AssertionReason) → reason_at (reason_place r) ≡ r
unfolding reason_at
at_place_is NocheckAlone = refl
at_place_is NocheckUnordered = refl
at_place_is Nostore = refl
at_place_is Noput = refl
at_place_is NocheckLock = refl

pub one_reason : (a b : AssertionReason) → reason_place a ≡ reason_place b → a ≡ b
one_reason a b same = sym (at_place_is a) ∙ ap reason_at same ∙ at_place_is b

-- ---- orders one after the other

pub both_equal : (a b : Ordering) → ordering_then a b ≡ Equal → (a ≡ Equal) × (b ≡ Equal)
both_equal Less b e = absurd (cc)
both_equal Equal b e = (refl, e)
both_equal Greater b e = absurd (cc)

then_equal : (a b : Ordering) → a ≡ Equal → b ≡ Equal → ordering_then a b ≡ Equal
then_equal a b one two = ap (λ o. ordering_then o b) one ∙ two

same_number : (x y : ℕ) → nat_cmp x y ≡ Equal → x ≡ y
same_number x y e = ranked x y Equal (sym e)

tied : (x y : ℕ) → x ≡ y → nat_cmp x y ≡ Equal
tied x y same = ap (λ z. nat_cmp z y) same ∙ tied_itself nat_cmp_total y

pub call_total : IsTotalOrder call_order
call_total =
    then_total
    (then_total (on_total (λ (f : BrokenAssertion). reason_place f.reason) nat_cmp_total) (on_total (λ (f : BrokenAssertion). f.rank.0) nat_cmp_total))
    (on_total (λ (f : BrokenAssertion). f.line.0) nat_cmp_total)

pub other_total : IsTotalOrder other_order
other_total = then_total (on_total (λ (f : BrokenAssertion). f.other.0.0) nat_cmp_total) (on_total (λ (f : BrokenAssertion). f.other.1.0) nat_cmp_total)

pub assertion_total : IsTotalOrder assertion_order
assertion_total = then_total call_total other_total

-- reports of one call and reason
pub record AreOfCall (f g : BrokenAssertion) : Type 0 where
  pub reason : f.reason ≡ g.reason
  pub rank : f.rank.0 ≡ g.rank.0
  pub line : f.line.0 ≡ g.line.0

pub of_call : (f g : BrokenAssertion) → call_order f g ≡ Equal → AreOfCall f g
of_call f g e =
    let two = both_equal _ _ e in
    let one = both_equal _ _ two.0 in
    record {
      reason = one_reason f.reason g.reason (same_number (reason_place f.reason) (reason_place g.reason) one.0);
      rank = same_number f.rank.0 g.rank.0 one.1;
      line = same_number f.line.0 g.line.0 two.1;
    }

pub of_call_equal : (f g : BrokenAssertion) → AreOfCall f g → call_order f g ≡ Equal
of_call_equal f g so =
    let r = nat_cmp (reason_place f.reason) (reason_place g.reason) in
    let k = nat_cmp f.rank.0 g.rank.0 in
    then_equal (ordering_then r k) (nat_cmp f.line.0 g.line.0)
    (then_equal r k (tied (reason_place f.reason) (reason_place g.reason) (ap reason_place so.reason)) (tied f.rank.0 g.rank.0 so.rank)) (tied f.line.0 g.line.0 so.line)

pub of_call_test : (f g : BrokenAssertion) → is_same_call f g ≡ true → AreOfCall f g
of_call_test f g test =
    let places : reason_place f.reason ≡ reason_place g.reason = grind (arith, nat_tests) in
    record { reason = one_reason f.reason g.reason places; rank = grind (arith, nat_tests); line = grind (arith, nat_tests) }

pub test_of_call : (f g : BrokenAssertion) → AreOfCall f g → is_same_call f g ≡ true
test_of_call f g so = let places = ap reason_place so.reason in let rank = so.rank in let line = so.line in grind (arith, nat_tests)

assertion_ties : (f g : BrokenAssertion) → assertion_order f g ≡ Equal → f ≡ g
assertion_ties f g e =
    let both = both_equal _ _ e in
    let own = of_call f g both.0 in
    let others = both_equal _ _ both.1 in
    let reason = own.reason in
    let rank = own.rank in
    let line = own.line in
    let other_rank = same_number f.other.0.0 g.other.0.0 others.0 in
    let other_line = same_number f.other.1.0 g.other.1.0 others.1 in
    λ k. record { reason = reason k; rank = record { 0 = rank k }; line = record { 0 = line k }; other = (record { 0 = other_rank k }, record { 0 = other_line k }) }

pub assertion_is_order : IsOrder assertion_order
assertion_is_order = record { total = assertion_total; ties = assertion_ties }
