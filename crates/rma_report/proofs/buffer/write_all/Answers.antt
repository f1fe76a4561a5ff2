use Rattle.rma_report.proofs.BufferLemmas.{passed_more, passed_rest}
use Rattle.rma_report.proofs.buffer.write_all.Goals as goal

pub returns-in-Err : goal.returns-in-Err
returns-in-Err g c =
    let failed = passed_more (λ text. text.now) _ _ _ c.args.buffer.now.bytes c.loop-text.buffer.bytes c.write.new.buffer.bytes c.args.texts.now c.loop-text.text-index _ _ c.loop-text-test.true c.loop-text.invariant c.in-Err.ensures in
    passed_rest (λ text. text.now) _ _ c.args.buffer.now.bytes c.write.new.buffer.bytes c.write.new.buffer.bytes c.args.texts.now _ c.in-Err.fault c.in-Err.fault failed
