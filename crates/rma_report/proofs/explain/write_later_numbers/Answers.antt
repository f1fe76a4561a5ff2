use Rattle.rma_report.specs.ExplainText.{later_number_text}
use Rattle.rma_report.proofs.BufferLemmas.{passed_more, passed_rest}
use Rattle.rma_report.proofs.explain.write_later_numbers.Goals as goal

pub returns-in-Err : goal.returns-in-Err
returns-in-Err g c =
    let failed = passed_more later_number_text _ _ _ c.args.buffer.now.bytes c.loop-number.buffer.bytes c.write_number.new.buffer.bytes c.args.numbers.now c.loop-number.number-index _ _ c.loop-number-test.true c.loop-number.invariant c.in-Err.ensures in
    passed_rest later_number_text _ _ c.args.buffer.now.bytes c.write_number.new.buffer.bytes c.write_number.new.buffer.bytes c.args.numbers.now _ c.in-Err.fault c.in-Err.fault failed
