use Rattle.std.proofs.Common.{◌++◌, ◌∷◌, [], List, ap, sym, ◌∙◌, arith}
use Rattle.rma_call.specs.Call.{RankCalls}
use Rattle.rma_report.specs.declared.finding.Finding.{Finding}
use Rattle.rma_report.specs.declared.finding.Finding.TheVariants.{Malformed}
use Rattle.rma_stream.specs.Findings.{bad_lines}
use Rattle.rma_stream.proofs.OutcomeLemmas.{calls_in_calls, calls_in_fault, bad_lines_calls, bad_lines_fault}
use Rattle.rma_stream.proofs.outcome.Outcomes.push.Goals as goal

pub returns-in_ok-push-in-Calls : goal.returns-in_ok-push-in-Calls
returns-in_ok-push-in-Calls c = λ before rank are.
    rw c.in-Calls.is (record {
      bad_are = are.bad_are ∙ sym (bad_lines_calls 0 before c.in-Calls.calls);
      calls_are = c.in_ok-push-in-Calls.ensures.items ∙ ap (λ (cs : List RankCalls). cs ++ c.in-Calls.calls ∷ []) are.calls_are ∙ sym (calls_in_calls before c.in-Calls.calls);
    })

pub returns-in_ok-push-in-Fault : goal.returns-in_ok-push-in-Fault
returns-in_ok-push-in-Fault c = λ before rank are.
    let fault = c.in-Fault.fault in
    rw c.in-Fault.is (record {
      bad_are = c.in_ok-push-in-Fault.ensures.ok ∙ ap (λ (fs : List Finding). fs ++ Malformed c.args.rank fault.line fault.reason ∷ []) are.bad_are
          ∙ ap (λ n. bad_lines 0 before ++ Malformed (record { 0 = n }) fault.line fault.reason ∷ []) (rank ∙ omega arith) ∙ sym (bad_lines_fault 0 before fault);
      calls_are = are.calls_are ∙ sym (calls_in_fault before fault);
    })
