use Rattle.std.proofs.Common.{codes, decimal}
use Rattle.rma_report.specs.Strict.{strict_word}
use Rattle.rma_report.specs.ReportText.{other_text}
use Rattle.rma_report.proofs.BufferLemmas.{passed_text, passed_then, passed_end}
use Rattle.rma_report.proofs.TextLemmas.{word_before}
use Rattle.rma_report.proofs.line.write_strict.Goals as goal

pub returns-in_err-write_all : goal.returns-in_err-write_all
returns-in_err-write_all g c =
    passed_text _ _ _ _ _ _ _ (word_before (codes "strict ") c.word.result.now (codes " ") (codes "rank ") c.format.result.now (codes " line ") c.format-2.result.now (strict_word c.args.fault.now.reason) (decimal c.args.fault.now.rank.0) (decimal c.args.fault.now.line.0) (other_text c.args.fault.now.other) (codes "\n") c.word.ensures c.format.ensures.text c.format-2.ensures.text)
    (passed_end _ _ _ _ _ _ _ _ _ c.from_residual.result c.from_residual.ensures.1 c.in_err-write_all.ensures)

pub returns : goal.returns
returns g c =
    passed_text _ _ _ _ _ _ _ (word_before (codes "strict ") c.word.result.now (codes " ") (codes "rank ") c.format.result.now (codes " line ") c.format-2.result.now (strict_word c.args.fault.now.reason) (decimal c.args.fault.now.rank.0) (decimal c.args.fault.now.line.0) (other_text c.args.fault.now.other) (codes "\n") c.word.ensures c.format.ensures.text c.format-2.ensures.text)
    (passed_then _ _ _ _ _ _ _ _ _ c.in_ok-write_all.ensures c.write_other.ensures)
