use Rattle.std.proofs.Common.{Ok, take}
use Rattle.std.specs.List.{flat_map}
use Rattle.rma_report.specs.inside.Buffering.{IsBuffered}
use Rattle.rma_report.proofs.buffer.write_all.Given as goal

abbrev pub invariant-loop-text : goal.invariant-loop-text
invariant-loop-text g l = IsBuffered (g.S.Sink.output l.initial.out) l.initial.buffer.bytes (flat_map (λ text. text.now) (take l.text-index l.texts)) (Ok tt) l.buffer.bytes (g.S.Sink.output l.out)
