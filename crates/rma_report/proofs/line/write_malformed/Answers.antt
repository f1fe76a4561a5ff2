use Rattle.std.proofs.Common.{codes, decimal}
use Rattle.rma_base.specs.FormReason.{form_word}
use Rattle.rma_report.proofs.BufferLemmas.{passed_text}
use Rattle.rma_report.proofs.TextLemmas.{word_after}
use Rattle.rma_report.proofs.line.write_malformed.Goals as goal

pub returns : goal.returns
returns g c =
    passed_text _ _ _ _ _ _ _ (word_after (codes "malformed rank ") c.format.result.now (codes " line ") c.format-2.result.now (codes " reason ") c.word.result.now (codes "\n") (decimal c.args.rank.0) (decimal c.args.line.0) (form_word c.args.reason) c.format.ensures.text c.format-2.ensures.text c.word.ensures) c.write_all.ensures
