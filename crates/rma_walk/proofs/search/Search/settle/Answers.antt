use Rattle.std.proofs.Common.{refl}
use Rattle.rma_walk.proofs.OutcomeLemmas.{search_from_idle}
use Rattle.rma_walk.proofs.search.Search.settle.Goals as goal

pub loop-self-init : goal.loop-self-init
loop-self-init c = record { search = search_from_idle c.args.run.now.lens.now c.args.run.now.links.now c.args.self.now c.args.rank c.requires.rank c.requires.idle; keeps = refl }
