use Rattle.rma_rules.specs.Lock.{Separated}
use Rattle.rma_rules.proofs.lock.separated.Goals as goal

pub returns : goal.returns
unfolding Separated
returns c = rw (← c.a.view_is, ← c.b.view_is) c.any_exclude.ensures
