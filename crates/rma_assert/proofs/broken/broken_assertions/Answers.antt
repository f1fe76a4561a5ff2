use Rattle.rma_concurrent.proofs.ListLemmas.{IfOk_map}
use Rattle.rma_assert.specs.Broken.{IsBroken}
use Rattle.rma_assert.proofs.FirstLemmas.{are_firsts}
use Rattle.rma_assert.proofs.broken.broken_assertions.Goals as goal

pub returns : goal.returns
returns g c =
    IfOk_map c.firsts.result (λ out so links are. are_firsts (IsBroken links c.args.ranks.now c.args.accesses.now.lists) c.in_ok-found.found.items out.items (c.in_ok-found.ensures links are) so) c.firsts.ensures
