use Rattle.std.proofs.lemmas.Result.{err_from_is_err_and}
use Rattle.rma_audit.proofs.RunLemmas.{judged, read_stops}
use Rattle.rma_audit.proofs.judging.judge_strictly.Goals as goal

pub returns-in_err-finish_strict-clause-stopped : goal.returns-in_err-finish_strict-clause-stopped
returns-in_err-finish_strict-clause-stopped g c =
    let p = err_from_is_err_and c.from_residual-in_err-finish_strict.result c.from_residual-in_err-finish_strict.ensures.1 in
    rw (p.1, p.2) (read_stops _ (g.L.Pulls.source c.args.logs.now) _ _ _ c.in_ok-audit.ensures.read)

pub returns-clause-judged : goal.returns-clause-judged
returns-clause-judged g c = judged _ _ _ _ _ _ c.in_ok-audit.ensures.read c.in_ok-finish_strict.ensures.findings
