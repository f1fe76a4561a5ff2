use Rattle.std.proofs.Common.{ap}
use Rattle.std.proofs.lemmas.Bool.{eq-eqb}
use Rattle.rma_base.specs.declared.rank.Rank.{Rank}
use Rattle.rma_rules.specs.Conflict.{Forbids}
use Rattle.rma_rules.proofs.ConflictLemmas.{none_of}
use Rattle.rma_rules.proofs.ForbidsLemmas.{none_from, one_memory}
use Rattle.rma_rules.proofs.conflict.forbids.Goals as goal

pub returns-then-eq-clause-none : goal.returns-then-eq-clause-none
returns-then-eq-clause-none c = none_from (Forbids c.args.windows.now c.args.a.now c.args.b.now) c.conflict.result c.conflict.ensures

pub returns-else-eq-clause-some : goal.returns-else-eq-clause-some
returns-else-eq-clause-some c =
    none_of (Forbids c.args.windows.now c.args.a.now c.args.b.now) (λ r all.
    let same = rw (← c.a.view_is, ← c.b.view_is) at (one_memory c.args.windows.now c.args.a.now c.args.b.now r all) in
    let yes = eq-eqb c.a.inside.memory.0 c.b.inside.memory.0 (ap (λ (m : Rank). m.0) same) in
    let no = c.if-eq.ensures in
    cc no)

pub returns-else-eq-clause-none : goal.returns-else-eq-clause-none
returns-else-eq-clause-none c =
    none_from (Forbids c.args.windows.now c.args.a.now c.args.b.now) _ (returns-else-eq-clause-some c)
