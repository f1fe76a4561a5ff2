use Rattle.std.proofs.Common.{◌≡◌, length, refl, sym}
use Rattle.rma_stream.specs.Findings.{AreRunFindings, bad_lines, calls_in}
use Rattle.rma_stream.proofs.FindingLemmas.{some_in_run, some_or_else}
use Rattle.rma_stream.proofs.OutcomeLemmas.{in_order, some_list}
use Rattle.rma_stream.proofs.laws.every_run_has_findings.Goals as goal

pub returns : goal.returns
returns c = λ logs pairs.
    let ends = some_list (length logs) 0 logs in
    let ranks = calls_in ends.0 in
    let found = some_or_else (λ found. found ≡ bad_lines 0 ends.0) (AreRunFindings ranks) (bad_lines 0 ends.0, refl)
    (λ none. some_in_run ranks (in_order (length logs) logs ends.0 ends.1 (sym none)) (pairs ends.0 ends.1 (sym none))) in
    (found.0, (ends.0, ends.1, found.1))
