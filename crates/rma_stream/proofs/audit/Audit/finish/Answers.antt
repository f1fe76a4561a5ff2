use Rattle.rma_stream.proofs.audit.Audit.finish.Goals as goal

pub returns-clause-findings : goal.returns-clause-findings
returns-clause-findings c = λ texts h. let ended = c.in_ok-ended.ensures.findings texts h in (ended.ranks, ended.lines, (ended.ends, ended.ends_are, ended.verdict))
