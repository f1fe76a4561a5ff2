use Rattle.std.proofs.Common.{◌-◌, ◌≤◌, ◌<◌, ℕ, List, length}
use Rattle.rma_call.specs.Call.{RankCalls}
use Rattle.rma_span.specs.Span.{origin_of, spanned_calls}
use Rattle.rma_accesses.specs.inside.Kept.{rank_of}
use Rattle.rma_explain.specs.inside.Line.{IsLineAt, IsOfLog}
use Rattle.rma_explain.proofs.named.count_before.Given as goal

abbrev pub invariant-search : goal.invariant-search
invariant-search l = record {
  low : l.low ≤ l.high;
  high : (ranks : List RankCalls) → IsOfLog ranks l.calls l.own → l.high ≤ length (spanned_calls (origin_of ranks (rank_of l.own)));
  before : (ranks : List RankCalls) (index line : ℕ) → IsOfLog ranks l.calls l.own → IsLineAt ranks (rank_of l.own) index line → index < l.low → line < l.line.0;
  after : (ranks : List RankCalls) (index line : ℕ) → IsOfLog ranks l.calls l.own → IsLineAt ranks (rank_of l.own) index line → l.high ≤ index → l.line.0 ≤ line;
}

abbrev pub decreases-search : goal.decreases-search
decreases-search l = l.high - l.low
