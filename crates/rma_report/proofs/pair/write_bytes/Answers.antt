use Rattle.std.proofs.Common.{codes}
use Rattle.rma_report.proofs.BufferLemmas.{passed_text, passed_then, passed_end}
use Rattle.rma_report.proofs.RangeLemmas.{all_ranges}
use Rattle.rma_report.proofs.pair.write_bytes.Goals as goal

pub returns-in_err-write_range : goal.returns-in_err-write_range
returns-in_err-write_range g c =
    passed_text _ _ _ _ _ _ _ (all_ranges (codes "bytes ") (codes "\n") c.args.bytes.now c.get.result c.get.ensures.value)
    (passed_end _ _ _ _ _ _ _ _ _ c.from_residual.result c.from_residual.ensures.1 c.in_err-write_range.ensures)

pub returns-in_err-write_later_ranges : goal.returns-in_err-write_later_ranges
returns-in_err-write_later_ranges g c =
    passed_text _ _ _ _ _ _ _ (all_ranges (codes "bytes ") (codes "\n") c.args.bytes.now c.get.result c.get.ensures.value)
    (passed_then _ _ _ _ _ _ _ _ _ c.in_ok-write_range.ensures
    (passed_end _ _ _ _ _ _ _ _ _ c.from_residual-in_err-write_later_ranges.result c.from_residual-in_err-write_later_ranges.ensures.1 c.in_err-write_later_ranges.ensures))

pub returns : goal.returns
returns g c =
    passed_text _ _ _ _ _ _ _ (all_ranges (codes "bytes ") (codes "\n") c.args.bytes.now c.get.result c.get.ensures.value)
    (passed_then _ _ _ _ _ _ _ _ _ c.in_ok-write_range.ensures
    (passed_then _ _ _ _ _ _ _ _ _ c.in_ok-write_later_ranges.ensures c.write-2.ensures))
