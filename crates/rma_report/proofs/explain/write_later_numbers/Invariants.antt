use Rattle.std.proofs.Common.{Ok, take}
use Rattle.std.specs.List.{flat_map}
use Rattle.rma_report.specs.inside.Buffering.{IsBuffered}
use Rattle.rma_report.specs.ExplainText.{later_number_text}
use Rattle.rma_report.proofs.explain.write_later_numbers.Given as goal

abbrev pub invariant-loop-number : goal.invariant-loop-number
invariant-loop-number g l = IsBuffered (g.S.Sink.output l.initial.out) l.initial.buffer.bytes (flat_map later_number_text (take l.number-index l.numbers)) (Ok tt) l.buffer.bytes (g.S.Sink.output l.out)
