use Rattle.rma_probe.proofs.PairLemmas.{with_two}
use Rattle.rma_probe.proofs.table.print_with.Goals as goal

pub print_pair-requires : goal.print_pair-requires
print_pair-requires c = with_two _ c.args.order c.args.all.now c.args.place c.loop-other.other c.index-all-place.result c.index-all-other.result c.requires.asked c.requires.place c.loop-other-test.true
    c.index-all-place.is c.index-all-other.is
