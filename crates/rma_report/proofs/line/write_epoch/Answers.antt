use Rattle.std.proofs.Common.{codes, decimal}
use Rattle.rma_base.specs.EpochReason.{epoch_word}
use Rattle.rma_report.proofs.BufferLemmas.{passed_text}
use Rattle.rma_report.proofs.TextLemmas.{place_after}
use Rattle.rma_report.proofs.line.write_epoch.Goals as goal

pub returns : goal.returns
returns g c =
    passed_text _ _ _ _ _ _ _ (place_after (codes "epoch ") c.word.result.now (codes " ") (codes "rank ") c.format.result.now (codes " line ") c.format-2.result.now (codes "\n") (epoch_word c.args.reason) (decimal c.args.rank.0) (decimal c.args.line.0) c.word.ensures c.format.ensures.text c.format-2.ensures.text) c.write_all.ensures
