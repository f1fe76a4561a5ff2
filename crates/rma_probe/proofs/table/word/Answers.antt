use Rattle.rma_probe.proofs.PairLemmas.{first_on_window, reached, second_on_window, swapped, two_of}
use Rattle.rma_probe.proofs.table.word.Goals as goal

pub before-requires-clause-a : goal.before-requires-clause-a
before-requires-clause-a c = first_on_window _ c.args.order c.args.a.now c.args.b.now (two_of _ c.args.order c.args.a.now c.args.b.now c.requires)

pub before-requires-clause-b : goal.before-requires-clause-b
before-requires-clause-b c = second_on_window _ c.args.order c.args.a.now c.args.b.now (two_of _ c.args.order c.args.a.now c.args.b.now c.requires)

pub before-requires-clause-clocks : goal.before-requires-clause-clocks
before-requires-clause-clocks c = reached _ c.args.order c.args.a.now c.args.b.now (two_of _ c.args.order c.args.a.now c.args.b.now c.requires)

pub before-requires-else-before-clause-a : goal.before-requires-else-before-clause-a
before-requires-else-before-clause-a c = second_on_window _ c.args.order c.args.a.now c.args.b.now (two_of _ c.args.order c.args.a.now c.args.b.now c.requires)

pub before-requires-else-before-clause-b : goal.before-requires-else-before-clause-b
before-requires-else-before-clause-b c = first_on_window _ c.args.order c.args.a.now c.args.b.now (two_of _ c.args.order c.args.a.now c.args.b.now c.requires)

pub before-requires-else-before-clause-clocks : goal.before-requires-else-before-clause-clocks
before-requires-else-before-clause-clocks c = reached _ c.args.order c.args.b.now c.args.a.now (swapped _ c.args.order c.args.a.now c.args.b.now (two_of _ c.args.order c.args.a.now c.args.b.now c.requires))
