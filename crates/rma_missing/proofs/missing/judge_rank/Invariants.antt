use Rattle.std.proofs.Common.{◌≡◌, List, [], ◌++◌, take}
use Rattle.rma_call.specs.Call.{RankCalls}
use Rattle.rma_round.specs.declared.kind.Kind.TheVariants as kind
use Rattle.rma_agreement.specs.Collective.{walked}
use Rattle.rma_missing.specs.inside.NameCount.{AreAllCounts}
use Rattle.rma_missing.specs.Missing.{missing_of, missing_at}
use Rattle.rma_missing.specs.inside.Missing.{AreMissingCalls}
use Rattle.rma_missing.proofs.missing.judge_rank.Given as goal

-- the calls so far are counted, and judged
abbrev pub invariant-loop-i : goal.invariant-loop-i
invariant-loop-i l = record {
  counts : AreAllCounts (take l.i l.rank.calls) l.counts;
  missing : (ranks : List RankCalls) → AreMissingCalls ranks l.initial.missing → AreMissingCalls ranks l.missing;
  calls : (ranks : List RankCalls) → AreMissingCalls ranks l.initial.missing →
      l.faults.calls ≡ l.initial.faults.calls ++ walked (missing_at ranks) l.rank.rank [] (take l.i l.rank.calls);
  movings : (ranks : List RankCalls) → AreMissingCalls ranks l.initial.missing →
      l.faults.movings ≡ l.initial.faults.movings ++ walked (missing_of kind.Moving ranks) l.rank.rank [] (take l.i l.rank.calls);
}
