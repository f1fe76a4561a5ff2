use Rattle.std.proofs.Common.{◌≡◌, true, false, sym, ◌∙◌}
use Rattle.rma_rules.specs.Kind.{is_target}
use Rattle.rma_rules.proofs.ForbidsLemmas.{of_own, of_own_and_target, of_target_and_own, of_targets, own_is}
use Rattle.rma_rules.proofs.conflict.conflict.Goals as goal

pub returns-then-is_target-2 : goal.returns-then-is_target-2
returns-then-is_target-2 c = λ r.
    let a = c.args.a.now in
    let b = c.args.b.now in
    let first : is_target a.kind ≡ true = rw (← c.a.view_is) (sym c.is_target.ensures ∙ c.if-is_target.true) in
    let second : is_target b.kind ≡ true = rw (← c.b.view_is) (sym c.is_target-then-is_target.ensures ∙ c.if-is_target-2.true) in
    let told = of_targets c.args.windows.now a b c.requires.memory r first second in
    let row = c.conflict_at_target.ensures r in
    (λ found. told.0 (row.0 found), λ all. row.1 (told.1 all))

pub returns-else-is_target-2 : goal.returns-else-is_target-2
returns-else-is_target-2 c = λ r.
    let a = c.args.a.now in
    let b = c.args.b.now in
    let first : is_target a.kind ≡ true = rw (← c.a.view_is) (sym c.is_target.ensures ∙ c.if-is_target.true) in
    let second : is_target b.kind ≡ false = rw (← c.b.view_is) (sym c.is_target-then-is_target.ensures ∙ c.if-is_target-2.false) in
    let told = of_target_and_own c.args.windows.now a b c.requires.memory r first (own_is b.kind second) in
    let row = c.conflict_with_target.ensures r in
    (λ found. told.0 (row.0 found), λ all. row.1 (told.1 all))

pub returns-then-is_target-3 : goal.returns-then-is_target-3
returns-then-is_target-3 c = λ r.
    let a = c.args.a.now in
    let b = c.args.b.now in
    let first : is_target a.kind ≡ false = rw (← c.a.view_is) (sym c.is_target.ensures ∙ c.if-is_target.false) in
    let second : is_target b.kind ≡ true = rw (← c.b.view_is) (sym c.is_target-else-is_target.ensures ∙ c.if-is_target-3.true) in
    let told = of_own_and_target c.args.windows.now a b c.requires.memory r (own_is a.kind first) second in
    let row = c.conflict_with_target-then-is_target-3.ensures r in
    (λ found. told.0 (row.0 found), λ all. row.1 (told.1 all))

pub returns-else-is_target-3 : goal.returns-else-is_target-3
returns-else-is_target-3 c = λ r.
    let a = c.args.a.now in
    let b = c.args.b.now in
    let first : is_target a.kind ≡ false = rw (← c.a.view_is) (sym c.is_target.ensures ∙ c.if-is_target.false) in
    let second : is_target b.kind ≡ false = rw (← c.b.view_is) (sym c.is_target-else-is_target.ensures ∙ c.if-is_target-3.false) in
    let told = of_own c.args.windows.now a b c.requires.memory r (own_is a.kind first) (own_is b.kind second) in
    let row = c.conflict_at_caller.ensures r in
    (λ found. told.0 (row.0 found), λ all. row.1 (told.1 all))
