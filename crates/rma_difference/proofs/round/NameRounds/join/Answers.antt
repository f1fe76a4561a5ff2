use Rattle.std.proofs.Common.{◌≤◌, ◌++◌, [], length, sym, ap, ◌∙◌, append-nil, arith}
use Rattle.std.specs.List.{cons_option}
use Rattle.std.specs.Option.{option_and_then}
use Rattle.std.proofs.lemmas.Option.{slice_get_past}
use Rattle.rma_agreement.specs.declared.first.First.{First}
use Rattle.rma_difference.specs.inside.CallCount.{number_in}
use Rattle.rma_agreement.specs.Round.{differs}
use Rattle.rma_difference.proofs.round.NameRounds.join.Goals as goal

-- no call has this number yet
pub returns-clause-faults : goal.returns-clause-faults
returns-clause-faults c =
    let firsts = c.args.self.now.firsts in
    let faults = c.args.faults.now in
    let number = number_in c.args.self.now.call_counts c.args.index in
    let past : length firsts ≤ number = omega (arith, c.len.ensures, c.in_ok-number.ensures.number) in
    sym (append-nil faults)
    ∙ ap (λ o. faults ++ cons_option (option_and_then (λ (first : First). differs c.args.kind first c.args.own) o) [])
    (sym (slice_get_past firsts number past))
