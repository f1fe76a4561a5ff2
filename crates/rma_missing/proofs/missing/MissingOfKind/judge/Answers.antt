use Rattle.std.proofs.Common.{◌≡◌, List, ℕ, Some, ap, sym, ◌∙◌}
use Rattle.std.specs.Option.{option_copied, option_and_then}
use Rattle.rma_call.specs.Call.{call_of}
use Rattle.rma_round.specs.Kind.{named, count_of}
use Rattle.rma_missing.specs.inside.ByRank.{is_reached}
use Rattle.rma_missing.specs.Missing.{missing_reason, fault_if, lacks}
use Rattle.rma_missing.proofs.missing.MissingOfKind.judge.Goals as goal

pub returns-clause-fault : goal.returns-clause-fault
returns-clause-fault c = λ kind ranks before members missing counted.
    let call = call_of c.args.call in
    let name = c.in-Some.name.now in
    let fewest = c.in_ok-fewest.fewest in
    let at : named kind call.what ≡ Some name = ap (λ k. named k call.what) (sym missing.kind_is) ∙ sym c.named.ensures ∙ ap option_copied c.in-Some.is in
    let number : c.count-number.result ≡ count_of kind name before = c.count-number.ensures ∙ counted name in
    let told = c.in_ok-fewest.ensures.fewest kind ranks members missing in
    c.fault_if.ensures
    ∙ ap (λ lacking. fault_if lacking c.missing_reason.result c.args.rank call) (c.reaches.ensures ∙ ap (is_reached fewest) number ∙ sym (told (count_of kind name before)))
    ∙ ap (λ reason. fault_if (lacks kind ranks name (count_of kind name before)) reason c.args.rank call) (c.missing_reason.ensures ∙ ap missing_reason (c.in_ok-fewest.ensures.missing kind ranks members missing).kind_is)
    ∙ ap (option_and_then (λ (n : List ℕ). fault_if (lacks kind ranks n (count_of kind n before)) (missing_reason kind) c.args.rank call)) (sym at)
