use Rattle.std.proofs.Common.{◌≡◌, ◌++◌, Some, slice_get, ap, ◌∙◌}
use Rattle.rma_base.specs.declared.rank.Rank.{Rank}
use Rattle.rma_call.specs.Call.{call_of}
use Rattle.rma_run.proofs.WalkLemmas.{by_number_taken}
use Rattle.rma_dyn.specs.Change.{changes_of}
use Rattle.rma_dyn.proofs.changes.add_rank.Goals as goal

pub loop-i-preserved : goal.loop-i-preserved
loop-i-preserved c =
    let own = c.args.own.now.calls in
    let i = c.loop-i.i in
    let call = call_of c.get-call.result in
    let there : slice_get own i ≡ Some call = rw (← c.calls-calls.ensures) c.get-call.ensures in
    let found = changes_of c.args.windows.now in
    c.in_ok-add_call.ensures
    ∙ ap (λ (r : Rank). c.loop-i.list.items ++ found r i call) c.rank.ensures
    ∙ ap (λ l. l ++ found c.args.own.now.rank i call) c.loop-i.invariant
    ∙ by_number_taken (found c.args.own.now.rank) own i call c.args.list.now.items there
