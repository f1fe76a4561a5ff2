use Rattle.rma_accesses.specs.inside.Kept.{rank_of}
use Rattle.rma_assert.proofs.StoreLemmas.{more_roles}
use Rattle.rma_assert.proofs.stores.add_of_index.Goals as goal

pub returns : goal.returns
returns c = more_roles c.args.windows.now c.args.ranks.now (rank_of c.args.accesses.now) c.args.given.now c.args.index _ _ _ _ c.in_ok-add_of_role.ensures c.in_ok-add_of_role-2.ensures c.in_ok-add_of_role-3.ensures
