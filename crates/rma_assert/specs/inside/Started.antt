-- What is found of starts, as it is gathered.
use Rattle.std.specs.Prelude.{◌≡◌, ℕ, List, Option, Some, None, slice_get}
use Rattle.rma_base.specs.declared.rank.Rank.{Rank}
use Rattle.rma_call.specs.Call.{Call}
use Rattle.rma_link.specs.declared.links.Links.{Links}
use Rattle.rma_exposure.specs.Matching.{partner_of}
use Rattle.rma_assert.specs.declared.asserting.Asserting.{Asserting}
use Rattle.rma_assert.specs.declared.assertion.BrokenAssertion.{BrokenAssertion}
use Rattle.rma_assert.specs.Starts.{IsAtStart, IsStartReason}
use Rattle.rma_assert.specs.inside.Gathered.{IsAsserting}

-- a report is that of a start and its post
pub record IsOfPair (links : Links) (start post : Asserting) (found : BrokenAssertion) : Type 0 where
  pub rank : found.rank ≡ start.rank
  pub line : found.line ≡ start.line
  pub other : found.other.0 ≡ post.rank
  pub other_line : found.other.1 ≡ post.line
  pub reason : IsStartReason links found.reason start.rank start.number start.nocheck post.rank post.number post.nocheck

-- the post of a number of a target, if it has such a call
abbrev pub IsOfPost : (ℕ → List Call) → Option ℕ → Rank → Option Asserting → Type 0
IsOfPost calls number target (Some post) = (post.rank ≡ target) × (number ≡ Some post.number) × IsAsserting calls post
IsOfPost calls number target None = (post : ℕ) (call : Call) → number ≡ Some post → slice_get (calls target.0) post ≡ Some call → ⊥

-- a report is that of a start and the post of a target
pub record IsOfTarget (links : Links) (calls : ℕ → List Call) (start : Asserting) (target : ℕ) (found : BrokenAssertion) : Type 0 where
  pub post : Asserting
  pub post_is : IsAsserting calls post
  pub target_is : post.rank.0 ≡ target
  pub matched : partner_of calls start.rank.0 start.number target ≡ Some post.number
  pub pair : IsOfPair links start post found

-- a report is that of the start of a number of a rank
abbrev pub IsOfStart : Links → (ℕ → List Call) → Rank → ℕ → BrokenAssertion → Type 0
IsOfStart links calls rank start found = IsAtStart links calls start found × (found.rank ≡ rank)

-- a report is that of a start of a rank
abbrev pub IsOfRank : Links → (ℕ → List Call) → Rank → BrokenAssertion → Type 0
IsOfRank links calls rank found = (start : ℕ) × IsOfStart links calls rank start found
