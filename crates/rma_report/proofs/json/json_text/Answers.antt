use Rattle.rma_report.proofs.JsonLemmas.{report_has_no_float}
use Rattle.rma_report.proofs.json.json_text.Goals as goal

pub compact-requires : goal.compact-requires
compact-requires c =
    let findings = c.args.findings.now in
    rw c.in_ok-report.ensures (report_has_no_float findings.ranks findings.lines findings.list c.args.limit)
