use Rattle.std.proofs.Common.{refl}
use Rattle.rma_report.proofs.BufferLemmas.{passed_text, passed_then, passed_end}
use Rattle.rma_report.proofs.TextLemmas.{two_cuts}
use Rattle.rma_report.proofs.explain.write_cuts.Goals as goal

pub returns-in_err-write_cut : goal.returns-in_err-write_cut
returns-in_err-write_cut g c =
    let cuts = c.in-Some.cuts.now in
    rw c.in-Some.is (passed_text _ _ _ _ _ _ _ (two_cuts cuts c.as_slice.result.now cuts.second c.as_slice.ensures refl)
    (passed_end _ _ _ _ _ _ _ _ _ c.from_residual.result c.from_residual.ensures.1 c.in_err-write_cut.ensures))

pub returns : goal.returns
returns g c =
    let cuts = c.in-Some.cuts.now in
    rw c.in-Some.is (passed_text _ _ _ _ _ _ _ (two_cuts cuts c.as_slice.result.now c.as_slice-2.result.now c.as_slice.ensures c.as_slice-2.ensures)
    (passed_then _ _ _ _ _ _ _ _ _ c.in_ok-write_cut.ensures c.write_cut-2.ensures))
