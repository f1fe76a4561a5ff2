use Rattle.std.proofs.Common.{◌≡◌, ◌++◌, [], ap, sym, ◌∙◌, append-nil}
use Rattle.std.specs.List.{cons_option}
use Rattle.rma_message.specs.Receive.{end_of}
use Rattle.rma_message.proofs.RunLemmas.{filter_map_more}
use Rattle.rma_message.proofs.messages.push_receives.Goals as goal
use Rattle.rma_message.proofs.messages.push_receives.Goals.{in-Some+in_ok-push, in_default}

-- the receive, where it is complete
stepped : (c : goal.Joined-branch-2) → c.match-branch-2.receives ≡ c.loop-receive.receives ++ cons_option c.in_ok-end.field-0 []
stepped c =
    let before = c.loop-receive.receives in
    elim c.match-branch-2.branch [
      | in-Some+in_ok-push w ↦ w.receives-is ∙ w.in_ok-push.ensures.ok ∙ ap (λ o. before ++ cons_option o []) (sym w.in-Some.is)
      | in_default w ↦ w.receives-is ∙ sym (append-nil before) ∙ ap (λ o. before ++ cons_option o []) (sym w.in_default.is)
    ]

pub loop-receive-preserved : goal.loop-receive-preserved
loop-receive-preserved c =
    let rank = c.args.rank in
    let receive = c.receive-item.result in
    stepped c
    ∙ ap (λ o. c.loop-receive.receives ++ cons_option o []) c.in_ok-end.ensures
    ∙ ap (λ l. l ++ cons_option (end_of rank receive) []) c.loop-receive.invariant
    ∙ filter_map_more (end_of rank) c.args.more.now c.loop-receive.receive-index receive c.args.receives.now c.loop-receive-test.true c.receive-item.is
