use Rattle.std.proofs.Common.{ℕ, ◌-◌, ◌<◌, ◌≤◌, length, slice_index_or}
use Rattle.std.specs.Prelude.{◌≤ℤ◌, ◌<ℤ◌}
use Rattle.rma_bytes.specs.declared.run.Run.{Run}
use Rattle.rma_bytes.specs.Runs.{end_of}
use Rattle.rma_rules.proofs.bytes.Bytes.first_after.Given as goal

abbrev pub invariant-search : goal.invariant-search
invariant-search l = record {
  in_order : l.low ≤ l.high;
  in_list : l.high ≤ length l.self;
  before : (k : ℕ) (d : Run) → k < l.low → end_of (slice_index_or l.self k d) ≤ℤ l.at;
  after : (k : ℕ) (d : Run) → l.high ≤ k → k < length l.self → l.at <ℤ end_of (slice_index_or l.self k d);
}

abbrev pub decreases-search : goal.decreases-search
decreases-search l = l.high - l.low
