use Rattle.rma_concurrent.proofs.ListLemmas.{more_none}
use Rattle.rma_assert.proofs.updates.add_updates.Goals as goal

pub returns-then-not-any_says : goal.returns-then-not-any_says
returns-then-not-any_says c =
    more_none c.args.found.now.items
    (λ x (access, has, (number, up)). c.any_says.ensures c.if-not-any_says.true x.rank number x.line (record { call = up.opening; there = up.opening_is; says = up.says; line_is = up.line }))
