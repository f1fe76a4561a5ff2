use Rattle.rma_rules.proofs.spans.Spans.add_visible.Goals as goal

pub invariant_of-self : goal.invariant_of-self
invariant_of-self c = (c.self.invariant.0, c.add_call.ensures.lists)
