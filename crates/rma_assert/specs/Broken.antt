-- The assertions of a run that do not hold, as one list (MPI 4.0, "One-Sided Communications", assertions).
use Rattle.std.specs.Prelude.{◌≡◌, ◌⊎◌, false, List}
use Rattle.std.specs.Ordering.{is_lt, nat_cmp, ordering_then}
use Rattle.std.specs.declared.cmp.Ordering.{Ordering}
use Rattle.std.specs.declared.cmp.Ordering.TheVariants.{Equal}
use Rattle.rma_call.specs.Call.{RankCalls}
use Rattle.rma_link.specs.declared.links.Links.{Links}
use Rattle.rma_run.specs.Run.{calls_of}
use Rattle.rma_window.specs.Creation.{creations}
use Rattle.rma_window.specs.Windows.{windows_by}
use Rattle.rma_rules.specs.Spans.{Spans}
use Rattle.rma_span.specs.Span.{accesses}
use Rattle.rma_concurrent.specs.Listed.{AreAll}
use Rattle.rma_assert.specs.declared.assertion.BrokenAssertion.{BrokenAssertion}
use Rattle.rma_assert.specs.Reason.{reason_place}
use Rattle.rma_assert.specs.Locks.{IsLockBroken}
use Rattle.rma_assert.specs.Starts.{IsStartBroken}
use Rattle.rma_assert.specs.Stores.{IsNostoreBroken}
use Rattle.rma_assert.specs.Updates.{IsNoputBroken}

-- the order of calls that assert: by the reason, by the rank, and by the line
abbrev pub call_order : BrokenAssertion → BrokenAssertion → Ordering
call_order f g = ordering_then (ordering_then (nat_cmp (reason_place f.reason) (reason_place g.reason)) (nat_cmp f.rank.0 g.rank.0)) (nat_cmp f.line.0 g.line.0)

-- the order of the calls that show it: by the rank, and by the line
abbrev pub other_order : BrokenAssertion → BrokenAssertion → Ordering
other_order f g = ordering_then (nat_cmp f.other.0.0 g.other.0.0) (nat_cmp f.other.1.0 g.other.1.0)

-- the order of reports: by the reason, by the rank, by the line, and by the call that shows it
abbrev pub assertion_order : BrokenAssertion → BrokenAssertion → Ordering
assertion_order f g = ordering_then (call_order f g) (other_order f g)

-- of all reports of a call for one reason it is the one by the first call that shows it
pub record IsFirst (Is : BrokenAssertion → Type 0) (found : BrokenAssertion) : Type 0 where
  pub shown : Is found
  pub first : (other : BrokenAssertion) → Is other → call_order found other ≡ Equal → is_lt (other_order other found) ≡ false

-- a list is that of all reports, of each call for each reason the first, in order
abbrev pub AreFirsts : (BrokenAssertion → Type 0) → List BrokenAssertion → Type 0
AreFirsts Is list = AreAll assertion_order (IsFirst Is) list

-- an assertion of a run, beside whose accesses these lists stand, is shown not to hold
abbrev pub IsBroken : Links → List RankCalls → Spans → BrokenAssertion → Type 0
IsBroken links ranks spans found =
    IsStartBroken links (calls_of ranks) found
    ⊎ (IsNostoreBroken (windows_by (creations ranks)) spans (calls_of ranks) (accesses ranks) found
    ⊎ (IsNoputBroken (calls_of ranks) (accesses ranks) found
    ⊎ IsLockBroken links (calls_of ranks) spans.locks found))

-- a list is that of all assertions of a run that do not hold: of each call for each reason once, with the first call that shows it, in order
abbrev pub AreBroken : Links → List RankCalls → Spans → List BrokenAssertion → Type 0
AreBroken links ranks spans list = AreFirsts (IsBroken links ranks spans) list
