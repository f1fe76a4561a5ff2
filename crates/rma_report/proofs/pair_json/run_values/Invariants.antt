use Rattle.std.proofs.Common.{◌≡◌, map, take}
use Rattle.serde_json.specs.View.{view}
use Rattle.rma_report.specs.ReportJson.{run_value}
use Rattle.rma_report.proofs.pair_json.run_values.Given as goal

abbrev pub invariant-loop-i : goal.invariant-loop-i
invariant-loop-i l = map view l.values.items ≡ map run_value (take l.i l.bytes)
