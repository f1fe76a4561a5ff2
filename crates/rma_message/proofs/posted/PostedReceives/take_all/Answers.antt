use Rattle.std.proofs.Common.{take, get_or, ap, subst, ◌∙◌, arith}
use Rattle.std.specs.Prelude.{option_map}
use Rattle.std.specs.Map.{keys_of}
use Rattle.std.proofs.lemmas.Option.{slice_get-get_or}
use Rattle.rma_call.specs.Call.{Call}
use Rattle.rma_message.specs.declared.posted.Step.TheVariants.{Nothing}
use Rattle.rma_message.specs.RankMessages.{no_messages, with_calls}
use Rattle.rma_message.specs.inside.Matched.{AreKept}
use Rattle.rma_message.proofs.ListLemmas.{some_at}
use Rattle.rma_message.proofs.PostedLemmas.{receives_more}
use Rattle.rma_message.proofs.posted.PostedReceives.take_all.Goals as goal

pub take-requires-clause-kept : goal.take-requires-clause-kept
take-requires-clause-kept c = ((with_calls (no_messages c.args.rank) 0 (take c.loop-i.i c.args.calls.now.calls)).receives, c.loop-i.invariant)

pub take-requires-clause-step : goal.take-requires-clause-step
take-requires-clause-step c = λ call there.
    let steps = c.args.steps.now in
    let number = c.what_number.result in
    c.requires.steps number call.what (get_or steps number Nothing) (c.what_number.ensures.what ∙ ap (option_map (λ (x : Call). x.what)) there)
    (slice_get-get_or steps number Nothing (omega (arith, c.what_number.ensures.within, c.requires.each)))

pub loop-i-preserved : goal.loop-i-preserved
loop-i-preserved c =
    let calls = c.args.calls.now.calls in
    let i = c.loop-i.i in
    let before = with_calls (no_messages c.args.rank) 0 (take i calls) in
    let one = some_at calls i (omega (arith, c.loop-i-test.true, c.len-i-end.ensures)) in
    subst (λ rs. AreKept c.args.rank (keys_of c.args.queues.now.entries) c.args.calls.now.whats rs c.take.new.self) (receives_more c.args.rank calls i one.0 one.1)
    (c.in_ok-take.ensures c.if-not-branch.false before.sends before.receives one.0 one.1 c.loop-i.invariant)
