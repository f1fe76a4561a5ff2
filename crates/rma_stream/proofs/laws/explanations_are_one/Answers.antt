use Rattle.std.proofs.Common.{List, length, subst, sym}
use Rattle.rma_log.specs.declared.fault.BookEnd.{BookEnd}
use Rattle.rma_report.specs.declared.finding.Finding.{Finding}
use Rattle.rma_stream.specs.Explained.{AreCutsAt}
use Rattle.rma_stream.specs.Findings.{calls_in}
use Rattle.rma_stream.proofs.LawLemmas.{one_explained, one_findings}
use Rattle.rma_stream.proofs.OutcomeLemmas.{one_list}
use Rattle.rma_stream.proofs.laws.explanations_are_one.Goals as goal

pub returns : goal.returns
returns c = λ logs number found others cuts other one two.
    let same_ends = one_list (length logs) 0 logs one.ends two.ends one.ends_are two.ends_are in
    let same = one_findings logs found others (one.ends, one.ends_are, one.found_are) (two.ends, two.ends_are, two.found_are) in
    let also = subst (λ (them : List Finding). AreCutsAt (calls_in one.ends) them number other) (sym same) (subst (λ (ends : List BookEnd). AreCutsAt (calls_in ends) others number other) (sym same_ends) two.cuts_are) in
    (same, one_explained logs one.ends one.ends_are found one.found_are number cuts other one.cuts_are also)
