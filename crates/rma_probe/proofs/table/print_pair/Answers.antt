use Rattle.rma_probe.proofs.PairLemmas.{first_on_window, second_on_window, two_of}
use Rattle.rma_probe.proofs.table.print_pair.Goals as goal

pub forbids-requires-clause-a : goal.forbids-requires-clause-a
forbids-requires-clause-a c = first_on_window _ c.args.order c.args.a.now c.args.b.now (two_of _ c.args.order c.args.a.now c.args.b.now c.requires)

pub forbids-requires-clause-b : goal.forbids-requires-clause-b
forbids-requires-clause-b c = second_on_window _ c.args.order c.args.a.now c.args.b.now (two_of _ c.args.order c.args.a.now c.args.b.now c.requires)
