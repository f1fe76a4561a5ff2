use Rattle.std.proofs.Common.{List, subst}
use Rattle.rma_concurrent.proofs.ListLemmas.{IfOk_map}
use Rattle.rma_assert.specs.declared.assertion.BrokenAssertion.{BrokenAssertion}
use Rattle.rma_assert.specs.inside.Gathered.{AreFirstOf}
use Rattle.rma_assert.proofs.FirstLemmas.{first_of}
use Rattle.rma_assert.proofs.firsts.firsts.Goals as goal

pub returns : goal.returns
returns c =
    IfOk_map c.each_first.result
    (λ out so.
    first_of c.args.found.items c.sort.new.found.items out.items c.sort.ensures.permutation (subst (λ (list : List BrokenAssertion). AreFirstOf list out.items) c.deref.ensures.value so))
    c.each_first.ensures
