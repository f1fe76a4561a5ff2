use Rattle.rma_report.specs.ReportText.{finding_line}
use Rattle.rma_report.proofs.BufferLemmas.{passed_item, passed_rest}
use Rattle.rma_report.proofs.line.write_findings.Goals as goal

pub returns-in-Err : goal.returns-in-Err
returns-in-Err g c =
    let failed = passed_item finding_line _ _ _ c.args.buffer.now.bytes c.loop-finding.buffer.bytes c.write_finding.new.buffer.bytes c.args.found.now c.loop-finding.finding-index c.finding-item.result _ c.loop-finding-test.true c.finding-item.is c.loop-finding.invariant c.in-Err.ensures in
    passed_rest finding_line _ _ c.args.buffer.now.bytes c.write_finding.new.buffer.bytes c.write_finding.new.buffer.bytes c.args.found.now _ c.in-Err.fault c.in-Err.fault failed

pub loop-finding-preserved : goal.loop-finding-preserved
loop-finding-preserved g c =
    passed_item finding_line _ _ _ c.args.buffer.now.bytes c.loop-finding.buffer.bytes c.write_finding.new.buffer.bytes c.args.found.now c.loop-finding.finding-index c.finding-item.result _ c.loop-finding-test.true c.finding-item.is c.loop-finding.invariant c.in-Ok.ensures
