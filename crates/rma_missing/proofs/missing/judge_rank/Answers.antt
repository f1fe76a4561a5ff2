use Rattle.std.proofs.Common.{◌≡◌, Some, slice_get, [], ◌++◌, List, take, ap, sym, subst, ◌∙◌}
use Rattle.std.specs.List.{cons_option}
use Rattle.rma_base.specs.declared.rank.Rank.{Rank}
use Rattle.rma_call.specs.Call.{Call, call_of}
use Rattle.rma_round.specs.declared.kind.Kind.TheVariants as kind
use Rattle.rma_missing.specs.inside.NameCount.{AreAllCounts}
use Rattle.rma_missing.specs.Missing.{missing_of, missing_at}
use Rattle.rma_agreement.proofs.WalkLemmas.{taken_there, walked_next}
use Rattle.rma_missing.proofs.missing.judge_rank.Goals as goal

pub loop-i-preserved : goal.loop-i-preserved
loop-i-preserved c =
    let rank = c.args.rank.now.rank in
    let calls = c.args.rank.now.calls in
    let i = c.loop-i.i in
    let call = call_of c.get-call.result in
    let there : slice_get calls i ≡ Some call = rw (← c.calls-calls.ensures) c.get-call.ensures in
    let before = take i calls in
    let so_far = c.loop-i.invariant in
    let judged = c.in_ok-judge.ensures in
    record {
      counts = subst (λ (l : List Call). AreAllCounts l c.note.new.self) (sym (taken_there calls i call there)) (c.in_ok-note.ensures before so_far.counts);
      missing = λ ranks missing. judged.missing ranks (so_far.missing ranks missing);
      calls = λ ranks missing.
          walked_next (missing_at ranks) rank calls i call c.args.faults.now.calls c.loop-i.faults.calls c.judge.new.faults.calls there (so_far.calls ranks missing)
          (judged.calls ranks before (so_far.missing ranks missing) so_far.counts
          ∙ ap (λ (r : Rank). c.loop-i.faults.calls ++ cons_option (missing_at ranks r before call) []) c.rank.ensures);
      movings = λ ranks missing.
          walked_next (missing_of kind.Moving ranks) rank calls i call c.args.faults.now.movings c.loop-i.faults.movings c.judge.new.faults.movings there
          (so_far.movings ranks missing)
          (judged.movings ranks before (so_far.missing ranks missing) so_far.counts
          ∙ ap (λ (r : Rank). c.loop-i.faults.movings ++ cons_option (missing_of kind.Moving ranks r before call) []) c.rank.ensures);
    }
