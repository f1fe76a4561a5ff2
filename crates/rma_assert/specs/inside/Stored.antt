-- What is found of stores, as it is gathered.
use Rattle.std.specs.Prelude.{◌≡◌, ℕ, true, List, Some, slice_get}
use Rattle.rma_base.specs.declared.line.LineNo.{LineNo}
use Rattle.rma_call.specs.Call.{Call, RankCalls}
use Rattle.rma_window.specs.Windows.{Window}
use Rattle.rma_rules.specs.Access.{Access}
use Rattle.rma_rules.specs.Spans.{Spans, publishing_of}
use Rattle.rma_rules.specs.declared.access_name.Role.{Role}
use Rattle.rma_assert.specs.declared.assertion.BrokenAssertion.{BrokenAssertion}
use Rattle.rma_assert.specs.declared.publishing.Publishing.{Publishing}
use Rattle.rma_assert.specs.Asserted.{assertions_of}
use Rattle.rma_assert.specs.Stores.{IsByStore, IsStoredTo}
use Rattle.rma_assert.specs.inside.Updated.{IsOfIndex}

-- the line of the call of a number, which says `nostore`
pub record SaysNostore (calls : List Call) (number : ℕ) (line : LineNo) : Type 0 where
  pub call : Call
  pub there : slice_get calls number ≡ Some call
  pub says : (assertions_of call.what).nostore ≡ true
  pub line_is : line ≡ call.line

-- what is found by an access and the call of a number of a rank
abbrev pub IsStored : List Window → Publishing → Access → ℕ → BrokenAssertion → Type 0
IsStored windows own access number found = IsStoredTo windows own.rank own.calls.now.calls own.published.now own.window access number found

-- by an access, and some call
abbrev pub IsStoredBy : List Window → Publishing → Access → BrokenAssertion → Type 0
IsStoredBy windows own access found = (number : ℕ) × IsStored windows own access number found

-- by what the call at an index among those that access memory does in some role
abbrev pub IsStoredAt : List Window → List RankCalls → RankCalls → Publishing → ℕ → BrokenAssertion → Type 0
IsStoredAt windows ranks own given index found = (role : Role) × IsOfIndex ranks own role (IsStoredBy windows given) index found

-- by what some call of a rank does, for this window
abbrev pub IsStoredIn : List Window → Spans → List RankCalls → RankCalls → ℕ → BrokenAssertion → Type 0
IsStoredIn windows spans ranks own window found =
    (index : ℕ) × ((role : Role) × IsOfIndex ranks own role (IsByStore windows own.rank own.calls (publishing_of spans own.rank (record { 0 = window })) (record { 0 = window })) index found)

-- for some window
abbrev pub IsStoredOf : List Window → Spans → List RankCalls → RankCalls → BrokenAssertion → Type 0
IsStoredOf windows spans ranks own found = (window : ℕ) × IsStoredIn windows spans ranks own window found
