use Rattle.std.proofs.Common.{◌↔◌, drop, pos, neg_ℤ}
use Rattle.std.specs.Prelude.{◌≤ℤ◌, ◌-ℤ◌, ◌^◌}
use Rattle.rma_bytes.specs.Runs.{BeginsAfter, IsCanonical}
use Rattle.rma_rules.proofs.bytes.are_canonical.Given as goal

abbrev pub invariant-runs : goal.invariant-runs
invariant-runs l = record {
  low : (neg_ℤ (pos (2 ^ 49)) -ℤ pos 1) ≤ℤ l.last;
  same : IsCanonical l.buffer.runs ↔ (BeginsAfter l.last (drop l.i l.buffer.runs) × IsCanonical (drop l.i l.buffer.runs));
}
