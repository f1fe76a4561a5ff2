use Rattle.std.proofs.Common.{sym, subst}
use Rattle.rma_concurrent.specs.inside.Places.{Rise}
use Rattle.rma_concurrent.proofs.epochs.concurrent_epochs.Goals as goal

pub exposed_locks-requires-clause-rise : goal.exposed_locks-requires-clause-rise
exposed_locks-requires-clause-rise g c = subst Rise (sym c.as_slice-list.ensures.value) c.in_ok-exposures.ensures.rise

pub doubled_posts-requires-clause-rise : goal.doubled_posts-requires-clause-rise
doubled_posts-requires-clause-rise g c = subst Rise (sym c.as_slice-list.ensures.value) c.in_ok-exposures.ensures.rise
