use Rattle.std.proofs.Common.{List, length, subst, sym}
use Rattle.rma_log.specs.declared.fault.BookEnd.{BookEnd}
use Rattle.rma_stream.specs.Findings.{AreFindings, calls_in}
use Rattle.rma_stream.specs.Strict.{AreStrict, AreStrictOf}
use Rattle.rma_stream.proofs.FindingLemmas.{one_or_else}
use Rattle.rma_stream.proofs.LawLemmas.{one_findings, good_where_clean}
use Rattle.rma_stream.proofs.OutcomeLemmas.{one_list}
use Rattle.rma_stream.proofs.StrictLemmas.{one_strict}
use Rattle.rma_stream.proofs.laws.strict_findings_are_one_list.Goals as goal

pub returns : goal.returns
returns c = λ logs. one_or_else (AreFindings logs) (AreStrictOf logs) (one_findings logs)
    (λ clean found others one two.
    let same = one_list (length logs) 0 logs one.0 two.0 one.1 two.1 in
    one_strict (calls_in one.0) (good_where_clean logs one.0 one.1 clean) found others one.2 (subst (λ (ends : List BookEnd). AreStrict (calls_in ends) others) (sym same) two.2))
