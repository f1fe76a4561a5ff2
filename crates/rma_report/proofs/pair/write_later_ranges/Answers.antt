use Rattle.std.proofs.Common.{◌<◌, ◌+◌, length, arith}
use Rattle.rma_report.specs.ReportText.{later_range_text}
use Rattle.rma_report.proofs.RangeLemmas.{later_more, later_rest}
use Rattle.rma_report.proofs.pair.write_later_ranges.Goals as goal

pub returns-in-Err : goal.returns-in-Err
returns-in-Err g c =
    let within : c.loop-i.i < length c.args.bytes.now = omega (arith, c.loop-i-test.true, c.len-i-end.ensures.value) in
    let failed = later_more later_range_text _ _ _ c.args.buffer.now.bytes c.loop-i.buffer.bytes c.write_range.new.buffer.bytes c.args.bytes.now c.loop-i.i c.get.result _ c.loop-i.auto.i within c.get.ensures.value c.loop-i.invariant c.in-Err.ensures in
    later_rest later_range_text _ _ c.args.buffer.now.bytes c.write_range.new.buffer.bytes c.write_range.new.buffer.bytes c.args.bytes.now (c.loop-i.i + 1) c.in-Err.fault c.in-Err.fault failed

pub loop-i-preserved : goal.loop-i-preserved
loop-i-preserved g c =
    let within : c.loop-i.i < length c.args.bytes.now = omega (arith, c.loop-i-test.true, c.len-i-end.ensures.value) in
    later_more later_range_text _ _ _ c.args.buffer.now.bytes c.loop-i.buffer.bytes c.write_range.new.buffer.bytes c.args.bytes.now c.loop-i.i c.get.result _ c.loop-i.auto.i within c.get.ensures.value c.loop-i.invariant c.in-Ok.ensures
