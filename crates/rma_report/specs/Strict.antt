-- What a strict audit finds where an audit finds nothing (MPI 4.0, "One-Sided Communications", assertions and dynamically attached
-- memory).
use Rattle.std.specs.Prelude.{ℕ, List, Some}
use Rattle.rma_assert.specs.Reason as assertion
use Rattle.rma_assert.specs.declared.assertion.BrokenAssertion.{BrokenAssertion}
use Rattle.rma_dyn.specs.Reason as region
use Rattle.rma_dyn.specs.declared.fault.RegionFault.{RegionFault}
use Rattle.rma_report.specs.declared.strict.StrictFault.{StrictFault}
use Rattle.rma_report.specs.declared.strict.StrictReason.{StrictReason}
use Rattle.rma_report.specs.declared.strict.StrictReason.TheVariants.{Assertion, Region}

-- the word that the report has for a reason
abbrev pub strict_word : StrictReason → List ℕ
strict_word (Assertion reason) = assertion.reason_word reason
strict_word (Region reason) = region.reason_word reason

-- an assertion that does not hold
abbrev pub of_assertion : BrokenAssertion → StrictFault
of_assertion broken = record { reason = Assertion broken.reason; rank = broken.rank; line = broken.line; other = Some broken.other }

-- a fault of the memory of a dynamic window
abbrev pub of_region : RegionFault → StrictFault
of_region fault = record { reason = Region fault.reason; rank = fault.rank; line = fault.line; other = fault.other }
