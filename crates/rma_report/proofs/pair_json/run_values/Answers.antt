use Rattle.std.proofs.Common.{arith}
use Rattle.serde_json.specs.View.{view}
use Rattle.rma_report.specs.ReportJson.{run_value}
use Rattle.rma_report.proofs.JsonLemmas.{values_more}
use Rattle.rma_report.proofs.pair_json.run_values.Goals as goal

pub loop-i-preserved : goal.loop-i-preserved
loop-i-preserved c =
    values_more view run_value c.loop-i.values.items c.push.new.self.items c.in_ok-run_value.field-0 c.args.bytes.now c.loop-i.i c.get.result c.in_ok-push.ensures.items (omega (arith, c.loop-i-test.true, c.len-i-end.ensures.value)) c.get.ensures.value c.loop-i.invariant c.in_ok-run_value.ensures
