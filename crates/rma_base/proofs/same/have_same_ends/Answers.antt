use Rattle.rma_base.proofs.SameLemmas.{ends_tell}
use Rattle.rma_base.proofs.same.have_same_ends.Goals as goal

pub returns : goal.returns
returns g c = ends_tell g.row.N c.args.own.now c.args.other.now _ _ c.requires.length c.requires.covered.0 c.requires.covered.1 c.agree_from.ensures c.agree_from-2.ensures
