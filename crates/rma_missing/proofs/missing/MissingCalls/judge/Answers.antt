use Rattle.std.proofs.Common.{◌++◌, [], ap, ◌∙◌}
use Rattle.std.specs.List.{cons_option}
use Rattle.std.specs.Option.{option_or}
use Rattle.rma_call.specs.Call.{call_of}
use Rattle.rma_round.specs.declared.kind.Kind.TheVariants as kind
use Rattle.rma_missing.specs.Missing.{missing_of}
use Rattle.rma_missing.proofs.missing.MissingCalls.judge.Goals as goal

pub returns-clause-calls : goal.returns-clause-calls
returns-clause-calls c = λ ranks before missing counts.
    let call = call_of c.args.call in
    let rank = c.args.rank in
    let collective = c.in_ok-collective.ensures.fault kind.Collective ranks before missing.members_are missing.collectives_are counts.collectives_are in
    let free = c.in_ok-free.ensures.fault kind.Free ranks before missing.members_are missing.frees_are counts.frees_are in
    let fence = c.in_ok-fence.ensures.fault kind.Fence ranks before missing.members_are missing.fences_are counts.fences_are in
    c.in_ok-push_some.ensures
    ∙ ap (λ o. c.args.faults.now.calls ++ cons_option o [])
    (c.or-2.ensures
    ∙ ap (λ o. option_or o c.in_ok-fence.fence) (c.or.ensures ∙ ap (λ o. option_or o c.in_ok-free.free) collective ∙ ap (option_or (missing_of kind.Collective ranks rank before call)) free)
    ∙ ap (option_or (option_or (missing_of kind.Collective ranks rank before call) (missing_of kind.Free ranks rank before call))) fence)

pub returns-clause-movings : goal.returns-clause-movings
returns-clause-movings c = λ ranks before missing counts.
    c.in_ok-push_some-2.ensures
    ∙ ap (λ o. c.args.faults.now.movings ++ cons_option o [])
    (c.in_ok-moving.ensures.fault kind.Moving ranks before missing.members_are missing.movings_are counts.movings_are)
