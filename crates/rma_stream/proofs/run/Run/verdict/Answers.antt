use Rattle.std.proofs.Common.{List, subst}
use Rattle.rma_call.specs.Call.{RankCalls}
use Rattle.rma_epoch.proofs.LiveLemmas.{IfOk_map}
use Rattle.rma_stream.specs.declared.run.Run.{Run}
use Rattle.rma_stream.specs.Findings.{AreFindingsOf, AreRunFindings, calls_in}
use Rattle.rma_stream.specs.inside.Run.{AreCallsOf, IsRunOf}
use Rattle.rma_stream.specs.inside.Verdict.{IsVerdict}
use Rattle.rma_stream.proofs.StudyLemmas.{by_good, early_by_bad, early_verdict, verdict_by}
use Rattle.rma_stream.proofs.run.Run.verdict.Goals as goal

pub returns-in-Judged : goal.returns-in-Judged
returns-in-Judged c = λ ends of_ends.
    let bad = subst (λ (run : Run). IsRunOf ends run) c.in-Judged.is of_ends in
    early_verdict (AreFindingsOf ends) (calls_in ends) c.args.question c.in-Judged.bad (early_by_bad ends c.in-Judged.bad bad.0 bad.1)

pub returns-in-Matched : goal.returns-in-Matched
returns-in-Matched c = IfOk_map c.verdict.result
    (λ verdict is ends of_ends.
    let own : AreCallsOf ends c.in-Matched.run' = subst (λ (run : Run). IsRunOf ends run) c.in-Matched.is of_ends in
    verdict_by (AreRunFindings (calls_in ends)) (AreFindingsOf ends) (calls_in ends) (by_good ends own.none_bad) c.args.question verdict
    (subst (λ (calls : List RankCalls). IsVerdict c.args.question (AreRunFindings calls) calls verdict) own.calls_are is))
    c.verdict.ensures
