use Rattle.rma_clock.proofs.builder.Builder.raise_to.Goals as goal

pub raise_to-requires-clause-table : goal.raise_to-requires-clause-table
raise_to-requires-clause-table c = (c.args.self.now.links.now, c.requires.builder.rows)

pub returns : goal.returns
returns c = c.raise_to.ensures.raised c.args.self.now.links.now c.requires.builder.rows c.requires.possible c.requires.caught
