use Rattle.std.proofs.Common.{[], ◌++◌, ◌∙◌, ap}
use Rattle.rma_call.specs.Call.{RankCalls}
use Rattle.rma_round.specs.declared.kind.Kind.TheVariants as kind
use Rattle.rma_agreement.specs.Collective.{walked}
use Rattle.rma_missing.specs.Missing.{missing_of, missing_at}
use Rattle.rma_agreement.proofs.WalkLemmas.{flat_map_taken}
use Rattle.rma_missing.proofs.missing.missing_calls.Goals as goal

pub loop-rank-preserved : goal.loop-rank-preserved
loop-rank-preserved c =
    let ranks = c.args.ranks.now in
    let calls = λ (r : RankCalls). walked (missing_at ranks) r.rank [] r.calls in
    let movings = λ (r : RankCalls). walked (missing_of kind.Moving ranks) r.rank [] r.calls in
    let so_far = c.loop-rank.invariant in
    let judged = c.in_ok-judge_rank.ensures in
    record {
      missing = judged.missing ranks so_far.missing;
      calls = judged.calls ranks so_far.missing
          ∙ ap (λ list. list ++ calls c.rank-item.result) so_far.calls
          ∙ flat_map_taken calls ranks c.loop-rank.rank-index c.rank-item.result c.loop-rank-test.true c.rank-item.is;
      movings = judged.movings ranks so_far.missing
          ∙ ap (λ list. list ++ movings c.rank-item.result) so_far.movings
          ∙ flat_map_taken movings ranks c.loop-rank.rank-index c.rank-item.result c.loop-rank-test.true c.rank-item.is;
    }
