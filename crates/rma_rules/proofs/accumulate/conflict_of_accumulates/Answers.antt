use Rattle.std.proofs.Common.{⊎_elim}
use Rattle.rma_rules.specs.declared.rule.Rule.TheVariants.{Accumulate}
use Rattle.rma_rules.specs.Conflict.{ConflictAtTarget}
use Rattle.rma_rules.proofs.ConflictLemmas.{AreOnOne, disagree_at, exactly, none_of, tell_at, unique_at}
use Rattle.rma_rules.proofs.accumulate.conflict_of_accumulates.Goals as goal

pub returns-then-neither_combines : goal.returns-then-neither_combines
returns-then-neither_combines c =
    let windows = c.args.windows.now in
    let a = c.args.a.now in
    let b = c.args.b.now in
    let both : AreOnOne a b = (c.requires.a, c.requires.b, c.requires.one) in
    none_of (ConflictAtTarget windows a b)
    (λ other row.
    ⊎_elim (λ overlap. overlap.1 both) (⊎_elim (λ beside. beside.1 both) (λ disagree. disagree.1.2 (c.neither_combines.ensures.0 c.if-neither_combines.true))) (tell_at windows a b other row))

pub returns-then-disagree : goal.returns-then-disagree
returns-then-disagree c =
    let windows = c.args.windows.now in
    let a = c.args.a.now in
    let b = c.args.b.now in
    let holds =
    disagree_at windows a b
    (c.requires.a, c.requires.b, (λ none. let yes = c.neither_combines.ensures.1 none in let no = c.if-neither_combines.false in cc), c.requires.one, c.disagree.ensures.0 c.if-disagree.true) in
    exactly (ConflictAtTarget windows a b) Accumulate holds (λ other row. unique_at windows a b other Accumulate row holds)

pub returns-else-disagree : goal.returns-else-disagree
returns-else-disagree c =
    let windows = c.args.windows.now in
    let a = c.args.a.now in
    let b = c.args.b.now in
    let both : AreOnOne a b = (c.requires.a, c.requires.b, c.requires.one) in
    none_of (ConflictAtTarget windows a b)
    (λ other row.
    ⊎_elim (λ overlap. overlap.1 both)
    (⊎_elim (λ beside. beside.1 both) (λ disagree. let yes = c.disagree.ensures.1 disagree.1.4 in let no = c.if-disagree.false in cc)) (tell_at windows a b other row))
