use Rattle.std.proofs.Common.{Ok, ◌-◌, ◌++◌, length, take, ap}
use Rattle.std.specs.List.{flat_map}
use Rattle.rma_report.specs.ReportText.{finding_line, omitted_line, verdict_line}
use Rattle.rma_report.proofs.BufferLemmas.{passed_text, passed_then, passed_end, passed_stop}
use Rattle.rma_report.proofs.TextLemmas.{first_texts}
use Rattle.rma_report.proofs.report.write_body.Goals as goal

pub returns-in_err-write_findings : goal.returns-in_err-write_findings
returns-in_err-write_findings g c =
    let found = c.args.found.now in
    let shown = flat_map finding_line (take c.args.limit found) in
    let omitted = omitted_line (length found - c.args.limit) in
    let left = c.write_findings.new.buffer.bytes in
    let fault = c.in_err-write_findings.field-0.0 in
    let same = first_texts finding_line found c.min.result c.args.limit c.min.ensures in
    passed_end _ _ _ (shown ++ omitted) (verdict_line (length found)) left _ fault _ c.from_residual.result c.from_residual.ensures.1
    (passed_stop _ _ _ shown omitted left left fault fault (passed_text _ _ _ _ _ _ _ same c.in_err-write_findings.ensures))

pub returns-in_err-write_omitted : goal.returns-in_err-write_omitted
returns-in_err-write_omitted g c =
    let found = c.args.found.now in
    let shown = flat_map finding_line (take c.args.limit found) in
    let omitted = omitted_line (length found - c.args.limit) in
    let left = c.write_omitted.new.buffer.bytes in
    let fault = c.in_err-write_omitted.field-0.0 in
    let same = first_texts finding_line found c.min.result c.args.limit c.min.ensures in
    passed_end _ _ _ (shown ++ omitted) (verdict_line (length found)) left _ fault _ c.from_residual-in_err-write_omitted.result c.from_residual-in_err-write_omitted.ensures.1
    (passed_then _ _ _ _ shown _ omitted _ _ (passed_text _ _ _ _ _ _ (Ok tt) same c.in_ok-write_findings.ensures)
    (passed_text _ _ _ _ _ _ _ (ap omitted_line c.saturating_sub.ensures) c.in_err-write_omitted.ensures))

pub returns : goal.returns
returns g c =
    let found = c.args.found.now in
    let shown = flat_map finding_line (take c.args.limit found) in
    let omitted = omitted_line (length found - c.args.limit) in
    let same = first_texts finding_line found c.min.result c.args.limit c.min.ensures in
    passed_then _ _ _ _ (shown ++ omitted) _ (verdict_line (length found)) _ _
    (passed_then _ _ _ _ shown _ omitted _ _ (passed_text _ _ _ _ _ _ (Ok tt) same c.in_ok-write_findings.ensures)
    (passed_text _ _ _ _ _ _ (Ok tt) (ap omitted_line c.saturating_sub.ensures) c.in_ok-write_omitted.ensures))
    c.write_verdict.ensures
