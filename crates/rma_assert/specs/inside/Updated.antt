-- What is found of updates, as it is gathered.
use Rattle.std.specs.Prelude.{◌≡◌, ℕ, true, List, Some, slice_get}
use Rattle.rma_base.specs.declared.line.LineNo.{LineNo}
use Rattle.rma_base.specs.declared.rank.Rank.{Rank}
use Rattle.rma_call.specs.Call.{Call, RankCalls}
use Rattle.rma_run.specs.Run.{calls_of}
use Rattle.rma_rules.specs.Access.{Access}
use Rattle.rma_rules.specs.declared.access_name.Role.{Role}
use Rattle.rma_rules.specs.declared.access_name.Role.TheVariants.{Target}
use Rattle.rma_span.specs.Span.{access_of, origin_of, spanned_calls}
use Rattle.rma_assert.specs.declared.assertion.BrokenAssertion.{BrokenAssertion}
use Rattle.rma_assert.specs.Asserted.{assertions_of}
use Rattle.rma_assert.specs.Updates.{IsByUpdate}

-- the line of the call of a number of a rank, which says `noput`
pub record SaysNoput (calls : ℕ → List Call) (rank : Rank) (number : ℕ) (line : LineNo) : Type 0 where
  pub call : Call
  pub there : slice_get (calls rank.0) number ≡ Some call
  pub says : (assertions_of call.what).noput ≡ true
  pub line_is : line ≡ call.line

-- a report is by what a call of a rank does in a role, the call at an index among those that access memory
pub record IsOfIndex (ranks : List RankCalls) (own : RankCalls) (role : Role) (Is : Access → BrokenAssertion → Type 0) (index : ℕ) (found : BrokenAssertion) : Type 0 where
  pub number : ℕ
  pub number_is : slice_get (spanned_calls (origin_of ranks own)) index ≡ Some number
  pub call : Call
  pub call_is : slice_get (origin_of ranks own).sound number ≡ Some call
  pub access : Access
  pub made : access_of (origin_of ranks own) number call role ≡ Some access
  pub is : Is access found

-- a report is by what a call of a rank does at its target
abbrev pub IsOfTargetAt : List RankCalls → RankCalls → ℕ → BrokenAssertion → Type 0
IsOfTargetAt ranks own index found = IsOfIndex ranks own Target (IsByUpdate (calls_of ranks)) index found

-- a report is by what some call of a rank does at its target
abbrev pub IsOfUpdates : List RankCalls → RankCalls → BrokenAssertion → Type 0
IsOfUpdates ranks own found = (index : ℕ) × IsOfTargetAt ranks own index found
