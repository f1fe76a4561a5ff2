-- How reports are gathered, and of each call for each reason the first is kept.
use Rattle.std.specs.Prelude.{◌≡◌, ◌<◌, ◌==◌, ◌&&◌, ℕ, Bool, false, true, List, Some, Contains, slice_get}
use Rattle.std.specs.Ordering.{is_lt}
use Rattle.std.specs.declared.cmp.Ordering.TheVariants.{Less}
use Rattle.rma_call.specs.Call.{Call}
use Rattle.rma_assert.specs.declared.asserting.Asserting.{Asserting}
use Rattle.rma_assert.specs.declared.assertion.BrokenAssertion.{BrokenAssertion}
use Rattle.rma_assert.specs.Asserted.{assertions_of}
use Rattle.rma_assert.specs.Broken.{call_order, other_order}
use Rattle.rma_assert.specs.Reason.{reason_place}

-- something is found by one of the first numbers, so many
pub record IsUpTo {X : Type 0} (Is : ℕ → X → Type 0) (count : ℕ) (found : X) : Type 0 where
  pub number : ℕ
  pub below : number < count
  pub is : Is number found

-- something is found by an element of a list at a place
pub record IsAtPlace {E X : Type 0} (Is : E → X → Type 0) (list : List E) (place : ℕ) (found : X) : Type 0 where
  pub element : E
  pub there : slice_get list place ≡ Some element
  pub is : Is element found

-- a call of a rank, with its line and whether it says `nocheck`
pub record IsAsserting (calls : ℕ → List Call) (own : Asserting) : Type 0 where
  pub call : Call
  pub there : slice_get (calls own.rank.0) own.number ≡ Some call
  pub line : own.line ≡ call.line
  pub nocheck : own.nocheck ≡ (assertions_of call.what).nocheck

-- ---- the first of each

-- whether two reports are of one call and reason
abbrev pub is_same_call : BrokenAssertion → BrokenAssertion → Bool
is_same_call a b = reason_place a.reason == reason_place b.reason && (a.rank.0 == b.rank.0 && a.line.0 == b.line.0)

-- a list has of each call for each reason, among some reports, one that no other comes before, in order
pub record AreFirstOf (list out : List BrokenAssertion) : Type 0 where
  pub only : (x : BrokenAssertion) → Contains out x → Contains list x
  pub each : (x : BrokenAssertion) → Contains list x → (y : BrokenAssertion) × Contains out y × (is_same_call y x ≡ true) × (is_lt (other_order x y) ≡ false)
  pub ascend : (i j : ℕ) (x y : BrokenAssertion) → i < j → slice_get out i ≡ Some x → slice_get out j ≡ Some y → call_order x y ≡ Less
