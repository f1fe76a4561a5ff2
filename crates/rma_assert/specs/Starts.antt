-- Starts and posts whose `nocheck` does not hold (MPI 4.0, "One-Sided Communications", assertions: a start may say `nocheck` only where
-- each post that it matches says so too, and is made before it).
use Rattle.std.specs.Prelude.{◌≡◌, ◌≢◌, ℕ, Bool, true, List, Some, Contains, slice_get}
use Rattle.rma_base.specs.declared.rank.Rank.{Rank}
use Rattle.rma_call.specs.Call.{Call}
use Rattle.rma_exposure.specs.Matching.{match_of}
use Rattle.rma_exposure.specs.Opening.{Opening, started}
use Rattle.rma_exposure.specs.declared.side.Side.TheVariants.{Access}
use Rattle.rma_link.specs.declared.links.Links.{Links}
use Rattle.rma_link.specs.Order.{IsAtOrBefore}
use Rattle.rma_link.specs.Point.{entry, return_of}
use Rattle.rma_assert.specs.declared.assertion.AssertionReason.{AssertionReason}
use Rattle.rma_assert.specs.declared.assertion.AssertionReason.TheVariants.{NocheckAlone, NocheckUnordered, Nostore, Noput, NocheckLock}
use Rattle.rma_assert.specs.declared.assertion.BrokenAssertion.{BrokenAssertion}
use Rattle.rma_assert.specs.Asserted.{assertions_of}

-- one of a start and its post says `nocheck`, and the other one does not
abbrev pub IsAlone : Bool → Bool → Type 0
IsAlone start post = start ≢ post

-- both say it, and the target has not surely returned from its post when the origin enters its start: that they match orders neither
pub record IsUnordered (links : Links) (origin : Rank) (start : ℕ) (starting : Bool) (target : Rank) (post : ℕ) (posting : Bool) : Type 0 where
  pub start_says : starting ≡ true
  pub post_says : posting ≡ true
  pub not_before : ¬ IsAtOrBefore links (return_of target post) (entry origin start)

-- why the `nocheck` of a start of an origin and of the post of a target does not hold, by their numbers and whether they say it
abbrev pub IsStartReason : Links → AssertionReason → Rank → ℕ → Bool → Rank → ℕ → Bool → Type 0
IsStartReason links NocheckAlone origin start starting target post posting = IsAlone starting posting
IsStartReason links NocheckUnordered origin start starting target post posting = IsUnordered links origin start starting target post posting
IsStartReason links Nostore origin start starting target post posting = ⊥
IsStartReason links Noput origin start starting target post posting = ⊥
IsStartReason links NocheckLock origin start starting target post posting = ⊥

-- the start of this number of a rank is reported, by a target of its group and the post there that it matches
pub record IsAtStart (links : Links) (calls : ℕ → List Call) (start : ℕ) (found : BrokenAssertion) : Type 0 where
  pub starting : Call
  pub start_is : slice_get (calls found.rank.0) start ≡ Some starting
  pub opening : Opening
  pub starts : started starting.what ≡ Some opening
  pub has_target : Contains opening.group found.other.0.0
  pub post : ℕ
  pub matched : match_of Access opening.window calls found.rank.0 start found.other.0.0 ≡ Some post
  pub posting : Call
  pub post_is : slice_get (calls found.other.0.0) post ≡ Some posting
  pub reason : IsStartReason links found.reason found.rank start (assertions_of starting.what).nocheck found.other.0 post (assertions_of posting.what).nocheck
  pub line : found.line ≡ starting.line
  pub other_line : found.other.1 ≡ posting.line

-- some start of the run is
abbrev pub IsStartBroken : Links → (ℕ → List Call) → BrokenAssertion → Type 0
IsStartBroken links calls found = (start : ℕ) × IsAtStart links calls start found
