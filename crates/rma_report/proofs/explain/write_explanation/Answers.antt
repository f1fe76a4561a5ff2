use Rattle.std.proofs.Common.{refl}
use Rattle.std.specs.Prelude.{option_copied}
use Rattle.rma_report.proofs.BufferLemmas.{passed_text, passed_then, passed_end}
use Rattle.rma_report.proofs.TextLemmas.{explained_whole, found_at}
use Rattle.rma_report.proofs.explain.write_explanation.Goals as goal

pub returns-in_err-write_header : goal.returns-in_err-write_header
returns-in_err-write_header g c =
    let findings = c.args.findings.now in
    passed_text _ _ _ _ _ _ _ (explained_whole findings.ranks findings.lines findings.list c.args.number (option_copied c.args.cuts) findings.list _ refl refl)
    (passed_end _ _ _ _ _ _ _ _ _ c.from_residual.result c.from_residual.ensures.1 c.in_err-write_header.ensures)

pub returns-in_err-write_chosen : goal.returns-in_err-write_chosen
returns-in_err-write_chosen g c =
    let findings = c.args.findings.now in
    let chosen = found_at c.as_slice-found.result.now _ c.get.result c.get.ensures.lookup.1 c.get.ensures.lookup.3 in
    passed_text _ _ _ _ _ _ _ (explained_whole findings.ranks findings.lines findings.list c.args.number (option_copied c.args.cuts) c.as_slice-found.result.now (option_copied c.get.result) c.as_slice-found.ensures chosen)
    (passed_then _ _ _ _ _ _ _ _ _ c.in_ok-write_header.ensures
    (passed_end _ _ _ _ _ _ _ _ _ c.from_residual-in_err-write_chosen.result c.from_residual-in_err-write_chosen.ensures.1 c.in_err-write_chosen.ensures))

pub returns-in_err-write_cuts : goal.returns-in_err-write_cuts
returns-in_err-write_cuts g c =
    let findings = c.args.findings.now in
    let chosen = found_at c.as_slice-found.result.now _ c.get.result c.get.ensures.lookup.1 c.get.ensures.lookup.3 in
    passed_text _ _ _ _ _ _ _ (explained_whole findings.ranks findings.lines findings.list c.args.number (option_copied c.args.cuts) c.as_slice-found.result.now (option_copied c.get.result) c.as_slice-found.ensures chosen)
    (passed_then _ _ _ _ _ _ _ _ _ c.in_ok-write_header.ensures
    (passed_then _ _ _ _ _ _ _ _ _ c.in_ok-write_chosen.ensures
    (passed_end _ _ _ _ _ _ _ _ _ c.from_residual-in_err-write_cuts.result c.from_residual-in_err-write_cuts.ensures.1 c.in_err-write_cuts.ensures)))

pub returns : goal.returns
returns g c =
    let findings = c.args.findings.now in
    let chosen = found_at c.as_slice-found.result.now _ c.get.result c.get.ensures.lookup.1 c.get.ensures.lookup.3 in
    passed_text _ _ _ _ _ _ _ (explained_whole findings.ranks findings.lines findings.list c.args.number (option_copied c.args.cuts) c.as_slice-found.result.now (option_copied c.get.result) c.as_slice-found.ensures chosen)
    (passed_then _ _ _ _ _ _ _ _ _ c.in_ok-write_header.ensures
    (passed_then _ _ _ _ _ _ _ _ _ c.in_ok-write_chosen.ensures
    (passed_then _ _ _ _ _ _ _ _ _ c.in_ok-write_cuts.ensures c.write_verdict.ensures)))
