-- What a strict audit finds in the whole logs of a run.
use Rattle.std.specs.Prelude.{◌≡◌, ℕ, List, length, map}
use Rattle.rma_call.specs.Call.{RankCalls}
use Rattle.rma_log.specs.declared.fault.BookEnd.{BookEnd}
use Rattle.rma_order.specs.RunLinks.{links_of}
use Rattle.rma_rules.specs.Spans.{Spans}
use Rattle.rma_accesses.specs.Run.{AreListsOf}
use Rattle.rma_assert.specs.declared.assertion.BrokenAssertion.{BrokenAssertion}
use Rattle.rma_assert.specs.Broken.{AreBroken}
use Rattle.rma_dyn.specs.declared.fault.RegionFault.{RegionFault}
use Rattle.rma_dyn.specs.Fault.{AreRegionFaults}
use Rattle.rma_report.specs.declared.finding.Finding.{Finding}
use Rattle.rma_report.specs.declared.finding.Finding.TheVariants.{Strict}
use Rattle.rma_report.specs.Strict.{of_assertion, of_region}
use Rattle.rma_stream.specs.Findings.{AreEnds, AreFindings, OrElse, calls_in}

-- an assertion that does not hold, as a finding
abbrev pub assertion_finding : BrokenAssertion → Finding
assertion_finding broken = Strict (of_assertion broken)

-- a fault of the memory of a dynamic window, as a finding
abbrev pub region_finding : RegionFault → Finding
region_finding fault = Strict (of_region fault)

-- the assertions of a possible run that do not hold
pub record AreAssertions (ranks : List RankCalls) (found : List Finding) : Type 0 where
  pub lists : Spans
  pub lists_are : AreListsOf ranks lists
  pub broken : List BrokenAssertion
  pub broken_are : AreBroken (links_of ranks) ranks lists broken
  pub found_are : found ≡ map assertion_finding broken

-- the faults of the memory of the dynamic windows of a possible run
abbrev pub AreRegions : List RankCalls → List Finding → Type 0
AreRegions ranks found = (faults : List RegionFault) × AreRegionFaults (links_of ranks) ranks faults × (found ≡ map region_finding faults)

-- the assertions that do not hold, or, where all do, the faults of the memory of dynamic windows
abbrev pub AreStrict : List RankCalls → List Finding → Type 0
AreStrict ranks = OrElse (AreAssertions ranks) (AreRegions ranks)

-- the same of the run of these whole logs
abbrev pub AreStrictOf : List (List ℕ) → List Finding → Type 0
AreStrictOf logs found = (ends : List BookEnd) × AreEnds (length logs) 0 logs ends × AreStrict (calls_in ends) found

-- what a strict audit finds in these whole logs: what an audit does, or, where that finds nothing, what is found of assertions or of the
-- memory of dynamic windows
abbrev pub AreStrictFindings : List (List ℕ) → List Finding → Type 0
AreStrictFindings logs = OrElse (AreFindings logs) (AreStrictOf logs)
