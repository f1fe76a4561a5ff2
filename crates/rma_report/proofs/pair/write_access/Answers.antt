use Rattle.std.proofs.Common.{codes, decimal}
use Rattle.rma_rules.specs.Words.{role_word}
use Rattle.rma_report.specs.ReportText.{site_text}
use Rattle.rma_report.proofs.BufferLemmas.{passed_text, passed_then, passed_end}
use Rattle.rma_report.proofs.TextLemmas.{access_parts}
use Rattle.rma_report.proofs.pair.write_access.Goals as goal

pub returns-in_err-write_all : goal.returns-in_err-write_all
returns-in_err-write_all g c =
    passed_text _ _ _ _ _ _ _ (access_parts c.format.result.now (codes ":") c.format-2.result.now (codes ":") c.word.result.now (codes " ") (decimal c.args.name.rank.0) (decimal c.args.name.line.0) (role_word c.args.name.role) (site_text c.args.site.now) (codes " ") c.format.ensures.text c.format-2.ensures.text c.word.ensures)
    (passed_end _ _ _ _ _ _ _ _ _ c.from_residual.result c.from_residual.ensures.1 c.in_err-write_all.ensures)

pub returns : goal.returns
returns g c =
    passed_text _ _ _ _ _ _ _ (access_parts c.format.result.now (codes ":") c.format-2.result.now (codes ":") c.word.result.now (codes " ") (decimal c.args.name.rank.0) (decimal c.args.name.line.0) (role_word c.args.name.role) (site_text c.args.site.now) (codes " ") c.format.ensures.text c.format-2.ensures.text c.word.ensures)
    (passed_then _ _ _ _ _ _ _ _ _ c.in_ok-write_all.ensures c.write_site.ensures)
