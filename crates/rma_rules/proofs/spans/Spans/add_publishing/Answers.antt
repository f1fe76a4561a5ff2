use Rattle.rma_rules.proofs.spans.Spans.add_publishing.Goals as goal

pub invariant_of-self : goal.invariant_of-self
invariant_of-self c = (c.add_call.ensures.lists, c.self.invariant.1)
