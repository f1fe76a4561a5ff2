use Rattle.std.proofs.Common.{ap, sym, ◌∙◌}
use Rattle.indexmap.proofs.CallerLemmas.{keys-with_value_at}
use Rattle.rma_call.specs.Call.{call_of}
use Rattle.rma_open.specs.Open.{open_after}
use Rattle.rma_open.specs.inside.Next.{past_with}
use Rattle.rma_epoch.proofs.LiveLemmas.{IfOk_all, OnOk_always}
use Rattle.rma_epoch.proofs.PlaceLemmas.{no_value, taken_there}
use Rattle.rma_epoch.proofs.open_windows.take_at.Goals as goal

pub returns-in-Some-clause-names : goal.returns-in-Some-clause-names
returns-in-Some-clause-names c = OnOk_always c.take_on.result (keys-with_value_at c.args.table.now c.args.place.index c.take_on.new.own)

pub returns-in-Some-clause-taken : goal.returns-in-Some-clause-taken
returns-in-Some-clause-taken c =
    let table = c.args.table.now in
    let call = call_of c.args.call in
    let new = c.take_on.new.own in
    IfOk_all c.take_on.result
    (λ step stands is next windows calls at number are.
    taken_there table c.args.place.index at.0 c.in-Some.own.now c.in-Some.ensures.unique at.1 (sym c.in-Some.ensures.value) windows calls call step new at.2 are
    (is windows at.3)
    (λ past before. next past before ∙ ap (λ k. open_after (past_with step.reason (k, call.what) past)) number)
    stands)
    c.take_on.ensures.placement c.take_on.ensures.reason c.take_on.ensures.taken

pub returns-in-None-clause-taken : goal.returns-in-None-clause-taken
returns-in-None-clause-taken c = λ windows calls at number are. no_value c.args.table.now.entries c.args.place.index at.0 at.1 c.in-None.ensures.value
