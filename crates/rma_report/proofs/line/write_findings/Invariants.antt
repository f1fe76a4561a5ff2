use Rattle.std.proofs.Common.{Ok, take}
use Rattle.std.specs.List.{flat_map}
use Rattle.rma_report.specs.inside.Buffering.{IsBuffered}
use Rattle.rma_report.specs.ReportText.{finding_line}
use Rattle.rma_report.proofs.line.write_findings.Given as goal

abbrev pub invariant-loop-finding : goal.invariant-loop-finding
invariant-loop-finding g l = IsBuffered (g.S.Sink.output l.initial.out) l.initial.buffer.bytes (flat_map finding_line (take l.finding-index l.found)) (Ok tt) l.buffer.bytes (g.S.Sink.output l.out)
