use Rattle.std.proofs.Common.{◌≡◌, ◌++◌, ◌∷◌, [], not, take, ap, sym, ◌∙◌, append-nil}
use Rattle.std.specs.List.{cons_option}
use Rattle.rma_message.specs.Matching.{fault_of}
use Rattle.rma_message.proofs.MatchLemmas.{fault_there, first_left, no_fault, popped, walked_more}
use Rattle.rma_message.proofs.fault.push_unmatched.Goals as goal
use Rattle.rma_message.proofs.fault.push_unmatched.Goals.{then-is_none+in_ok-push, else-is_none}

-- the end with its fault, if it has one
stepped : (c : goal.Joined-is_none) → c.if-is_none.faults ≡ c.loop-end.faults ++ cons_option (fault_of c.args.reason c.args.others.now (take c.loop-end.end-index c.args.own.now) c.end-item.result) []
stepped c =
    let own = c.end-item.result in
    let others = c.args.others.now in
    let before = take c.loop-end.end-index c.args.own.now in
    let faults = c.loop-end.faults in
    let found = c.pop.ensures.first ∙ first_left c.loop-end.queues.entries others before own c.loop-end.invariant.left in
    elim c.if-is_none.branch [
      | then-is_none+in_ok-push w ↦
          w.faults-is
          ∙ w.in_ok-push.ensures.ok
          ∙ ap (λ f. faults ++ f ∷ []) w.fault.ensures
          ∙ ap (λ o. faults ++ cons_option o []) (sym (fault_there others before own c.pop.result found c.args.reason (c.is_none.ensures ∙ ap not w.if-is_none.true)))
      | else-is_none w ↦
          w.faults-is
          ∙ sym (append-nil faults)
          ∙ ap (λ o. faults ++ cons_option o []) (sym (no_fault others before own c.pop.result found c.args.reason (c.is_none.ensures ∙ ap not w.if-is_none.false)))
    ]

pub loop-end-preserved : goal.loop-end-preserved
loop-end-preserved c =
    let own = c.end-item.result in
    let i = c.loop-end.end-index in
    let others = c.args.others.now in
    record {
      faults =
          stepped c
          ∙ ap (λ l. l ++ cons_option (fault_of c.args.reason others (take i c.args.own.now) own) []) c.loop-end.invariant.faults
          ∙ walked_more (fault_of c.args.reason others) c.args.own.now i own c.args.faults.now c.loop-end-test.true c.end-item.is;
      left = popped c.loop-end.queues.entries c.pop.new.queues.entries others c.args.own.now i own c.loop-end-test.true c.end-item.is c.loop-end.invariant.left c.pop.ensures.rest;
    }
