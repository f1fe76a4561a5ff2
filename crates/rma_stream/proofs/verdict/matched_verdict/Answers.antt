use Rattle.rma_epoch.proofs.LiveLemmas.{IfOk_map}
use Rattle.rma_stream.specs.Findings.{AreFaults, AreRunFindings}
use Rattle.rma_stream.proofs.FaultLemmas.{none_impossible}
use Rattle.rma_stream.proofs.StudyLemmas.{by_faults, early_verdict, verdict_by}
use Rattle.rma_stream.proofs.verdict.matched_verdict.Goals as goal

pub returns-in-Failed : goal.returns-in-Failed
returns-in-Failed c = early_verdict (AreRunFindings c.args.calls.now) c.args.calls.now c.args.question c.in-Failed.found (rw c.in-Failed.is at c.in_ok-found.ensures)

pub returns-in-Possible : goal.returns-in-Possible
returns-in-Possible c =
    let calls = c.args.calls.now in
    let study = rw c.in-Possible.is at c.in_ok-found.ensures in
    let possible = none_impossible calls c.requires.good.run.in_order study.1.possible in
    IfOk_map c.possible_verdict.result (verdict_by (AreFaults calls) (AreRunFindings calls) calls (by_faults calls study.0 possible) c.args.question) c.possible_verdict.ensures
