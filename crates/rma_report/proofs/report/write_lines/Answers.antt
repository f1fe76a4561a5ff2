use Rattle.std.proofs.Common.{ap}
use Rattle.rma_report.specs.ReportText.{header_line, body_text}
use Rattle.rma_report.proofs.BufferLemmas.{passed_text, passed_then, passed_end}
use Rattle.rma_report.proofs.report.write_lines.Goals as goal

pub returns-in_err-write_header : goal.returns-in_err-write_header
returns-in_err-write_header g c =
    let findings = c.args.findings.now in
    passed_end _ _ _ (header_line findings.ranks findings.lines) (body_text findings.list c.args.limit) _ _ _ _ c.from_residual.result c.from_residual.ensures.1 c.in_err-write_header.ensures

pub returns : goal.returns
returns g c =
    let findings = c.args.findings.now in
    passed_then _ _ _ _ (header_line findings.ranks findings.lines) _ (body_text findings.list c.args.limit) _ _ c.in_ok-write_header.ensures
    (passed_text _ _ _ _ _ _ _ (ap (λ found. body_text found c.args.limit) c.as_slice.ensures) c.write_body.ensures)
