use Rattle.std.proofs.Common.{Ok, take, drop}
use Rattle.std.specs.List.{flat_map}
use Rattle.rma_report.specs.inside.Buffering.{IsBuffered}
use Rattle.rma_report.specs.ReportText.{later_range_text}
use Rattle.rma_report.proofs.pair.write_later_ranges.Given as goal

abbrev pub invariant-loop-i : goal.invariant-loop-i
invariant-loop-i g l = IsBuffered (g.S.Sink.output l.initial.out) l.initial.buffer.bytes (flat_map later_range_text (drop 1 (take l.i l.bytes))) (Ok tt) l.buffer.bytes (g.S.Sink.output l.out)
