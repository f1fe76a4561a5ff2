use Rattle.std.proofs.Common.{codes}
use Rattle.rma_report.proofs.BufferLemmas.{passed_text, passed_then, passed_end}
use Rattle.rma_report.proofs.TextLemmas.{all_numbers}
use Rattle.rma_report.proofs.explain.write_cut.Goals as goal

pub returns-in_err-write_number : goal.returns-in_err-write_number
returns-in_err-write_number g c =
    passed_text _ _ _ _ _ _ _ (all_numbers c.args.before.now (codes "\n") c.args.cut.now c.in-Some.first.now c.in-Some.rest.now c.in-Some.ensures.cases.0)
    (passed_end _ _ _ _ _ _ _ _ _ c.from_residual.result c.from_residual.ensures.1 c.in_err-write_number.ensures)

pub returns-in_err-write_later_numbers : goal.returns-in_err-write_later_numbers
returns-in_err-write_later_numbers g c =
    passed_text _ _ _ _ _ _ _ (all_numbers c.args.before.now (codes "\n") c.args.cut.now c.in-Some.first.now c.in-Some.rest.now c.in-Some.ensures.cases.0)
    (passed_then _ _ _ _ _ _ _ _ _ c.in_ok-write_number.ensures
    (passed_end _ _ _ _ _ _ _ _ _ c.from_residual-in_err-write_later_numbers.result c.from_residual-in_err-write_later_numbers.ensures.1 c.in_err-write_later_numbers.ensures))

pub returns : goal.returns
returns g c =
    passed_text _ _ _ _ _ _ _ (all_numbers c.args.before.now (codes "\n") c.args.cut.now c.in-Some.first.now c.in-Some.rest.now c.in-Some.ensures.cases.0)
    (passed_then _ _ _ _ _ _ _ _ _ c.in_ok-write_number.ensures
    (passed_then _ _ _ _ _ _ _ _ _ c.in_ok-write_later_numbers.ensures c.write.ensures))
