use Rattle.std.proofs.Common.{◌≡◌, None, Some, refl}
use Rattle.rma_rules.proofs.PartLemmas.{allowed, none_allowed}
use Rattle.rma_rules.proofs.part.allows_no_op.Goals as goal

pub returns-in_default : goal.returns-in_default
returns-in_default c =
    let none : c.args.a.now.window ≡ None = rw (← c.a.view_is) c.in_default.is in
    (λ test. absurd (cc), λ is. absurd (none_allowed c.args.windows.now c.args.a.now none is))

pub returns-in-SameOpNoOp : goal.returns-in-SameOpNoOp
returns-in-SameOpNoOp c =
    let through : c.args.a.now.window ≡ Some c.in-Some.window = rw (← c.a.view_is) c.in-Some.is in
    let told = allowed c.args.windows.now c.args.a.now c.in-Some.window through c.ops.result c.ops.ensures in
    (λ test. told.0 c.in-SameOpNoOp.is, λ is. refl)

pub returns-in-SameOp : goal.returns-in-SameOp
returns-in-SameOp c =
    let through : c.args.a.now.window ≡ Some c.in-Some.window = rw (← c.a.view_is) c.in-Some.is in
    let told = allowed c.args.windows.now c.args.a.now c.in-Some.window through c.ops.result c.ops.ensures in
    (λ test. absurd (cc), λ is. absurd (let other = told.1 is in cc (c.in-SameOp.is)))
