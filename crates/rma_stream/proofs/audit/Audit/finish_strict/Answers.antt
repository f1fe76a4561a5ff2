use Rattle.rma_stream.proofs.LawLemmas.{strict_of_ends}
use Rattle.rma_stream.proofs.audit.Audit.finish_strict.Goals as goal

pub returns-clause-findings : goal.returns-clause-findings
returns-clause-findings c = λ texts h. let ended = c.in_ok-ended.ensures.findings texts h in (ended.ranks, ended.lines, strict_of_ends texts ended.ends ended.ends_are _ ended.verdict)
