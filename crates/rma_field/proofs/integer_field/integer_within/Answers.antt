use Rattle.rma_field.proofs.integer_field.integer_within.Goals as goal

pub returns-then-number-clause-range : goal.returns-then-number-clause-range
returns-then-number-clause-range c = c.below_zero.ensures.range c.args.high

pub returns-else-number-clause-gives : goal.returns-else-number-clause-gives
returns-else-number-clause-gives c = λ m is. rw c.if-number.false (c.above_zero.ensures.gives m c.args.low is)

pub returns-else-number-clause-range : goal.returns-else-number-clause-range
returns-else-number-clause-range c = c.above_zero.ensures.range c.args.low
