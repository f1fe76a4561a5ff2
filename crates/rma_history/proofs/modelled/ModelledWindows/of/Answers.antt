use Rattle.rma_history.proofs.modelled.ModelledWindows.of.Goals as goal

pub invariant_of-result : goal.invariant_of-result
invariant_of-result c = λ none id separate. let some = c.has_separate.ensures id separate in cc
