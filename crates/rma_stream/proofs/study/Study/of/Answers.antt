use Rattle.std.proofs.Common.{sym, ◌∙◌}
use Rattle.rma_stream.proofs.StudyLemmas.{early_by_mismatches}
use Rattle.rma_stream.proofs.study.Study.of.Goals as goal

pub returns-else-is_empty : goal.returns-else-is_empty
returns-else-is_empty c = early_by_mismatches c.args.calls.now c.in_ok-unmatched.unmatched c.in_ok-unmatched.ensures (sym c.is_empty.ensures ∙ c.if-is_empty.false)
