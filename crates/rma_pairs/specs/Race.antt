-- Two accesses that race (MPI 4.0, "One-Sided Communications", semantics and correctness: conflicting accesses that nothing orders are
-- erroneous).
use Rattle.std.specs.Prelude.{◌↔◌, ℤ, List}
use Rattle.rma_bytes.specs.declared.run.Run.{Run}
use Rattle.rma_bytes.specs.Runs.{HasByte, IsCanonical}
use Rattle.rma_link.specs.declared.links.Links.{Links}
use Rattle.rma_window.specs.Windows.{Window}
use Rattle.rma_rules.specs.Access.{Access}
use Rattle.rma_rules.specs.Before.{Before}
use Rattle.rma_rules.specs.Conflict.{Forbids}
use Rattle.rma_rules.specs.Lock.{Separated}
use Rattle.rma_rules.specs.Spans.{Spans}
use Rattle.rma_rules.specs.declared.rule.Rule.{Rule}

-- two accesses conflict by a rule, no locks keep them apart, and neither is complete and visible before the other starts
pub record Race (links : Links) (windows : List Window) (spans : Spans) (a b : Access) (rule : Rule) : Type 0 where
  pub conflict : Forbids windows a b rule
  pub together : ¬ Separated a b
  pub not_before : ¬ Before links windows spans a b
  pub not_after : ¬ Before links windows spans b a

-- the bytes that both touch, as their one list of runs in canonical form
pub record AreCommon (a b : Access) (runs : List Run) : Type 0 where
  pub canonical : IsCanonical runs
  pub bytes : (byte : ℤ) → HasByte runs byte ↔ (HasByte a.runs byte × HasByte b.runs byte)
