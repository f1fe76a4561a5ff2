use Rattle.std.proofs.Common.{◌++◌, ◌∷◌, [], Contains, sym, subst}
use Rattle.rma_assert.specs.inside.Gathered.{AreFirstOf}
use Rattle.rma_assert.proofs.FirstLemmas.{first_added, first_skipped}
use Rattle.rma_assert.proofs.firsts.add_first.Goals as goal

pub returns-in_ok-push : goal.returns-in_ok-push
returns-in_ok-push c = λ seen so behind.
    let new = rw c.as_slice.ensures.value at (c.if-is_first.ensures) in
    subst (AreFirstOf (seen ++ c.args.report ∷ [])) (sym c.in_ok-push.ensures.items) (first_added seen c.args.out.now.items c.args.report so behind new)

pub returns-else-is_first : goal.returns-else-is_first
returns-else-is_first c = λ seen so behind.
    let (x, has, same) = c.if-is_first.ensures in
    first_skipped seen c.args.out.now.items c.args.report so behind x (subst (λ xs. Contains xs x) c.as_slice.ensures.value has) same
