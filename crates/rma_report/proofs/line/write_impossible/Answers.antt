use Rattle.std.proofs.Common.{codes, decimal}
use Rattle.rma_report.proofs.BufferLemmas.{passed_text}
use Rattle.rma_report.proofs.TextLemmas.{place_alone}
use Rattle.rma_report.proofs.line.write_impossible.Goals as goal

pub returns : goal.returns
returns g c =
    passed_text _ _ _ _ _ _ _ (place_alone (codes "impossible ") c.format.result.now (codes "rank ") (codes " line ") c.format-2.result.now (codes "\n") (decimal c.args.rank.0) (decimal c.args.line.0) c.format.ensures.text c.format-2.ensures.text) c.write_all.ensures
