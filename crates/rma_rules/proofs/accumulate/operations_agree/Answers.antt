use Rattle.std.proofs.Common.{◌≡◌, inr, ap, ◌∙◌}
use Rattle.rma_rules.specs.declared.kind.Kind.TheVariants.{Accumulate}
use Rattle.rma_rules.specs.Access.{Access}
use Rattle.rma_rules.proofs.AccumulateLemmas.{agree_is, first_agrees, may_anywhere, may_here, second_agrees}
use Rattle.rma_rules.proofs.accumulate.operations_agree.Goals as goal

pub returns-in_default : goal.returns-in_default
returns-in_default c = (
  λ test. absurd (cc),
  λ agree.
      let is = first_agrees c.args.windows.now c.args.a.now c.args.b.now agree in
      absurd (c.in_default.not-Accumulate is.0 (ap (λ (r : Access). r.kind) c.a.view_is ∙ is.1)),
)

pub returns-in_default-kind : goal.returns-in_default-kind
returns-in_default-kind c = (
  λ test. absurd (cc),
  λ agree.
      let is = second_agrees c.args.windows.now c.args.a.now c.args.b.now agree in
      absurd (c.in_default-kind.not-Accumulate is.0 (ap (λ (r : Access). r.kind) c.b.view_is ∙ is.1)),
)

pub returns-then-may_meet : goal.returns-then-may_meet
returns-then-may_meet c =
    let a = c.args.a.now in
    let one : a.kind ≡ Accumulate c.in-Accumulate.one = rw (← c.a.view_is) c.in-Accumulate.is in
    let two : c.args.b.now.kind ≡ Accumulate c.in-Accumulate-kind.two = rw (← c.b.view_is) c.in-Accumulate-kind.is in
    let told = agree_is c.args.windows.now a c.args.b.now c.in-Accumulate.one c.in-Accumulate-kind.two one two in
    (λ test. told.0 (may_anywhere c.args.windows.now a c.in-Accumulate.one c.in-Accumulate-kind.two (c.may_meet.ensures.0 test)), λ agree. c.if-may_meet.true)

pub returns-then-has_one_no_op : goal.returns-then-has_one_no_op
returns-then-has_one_no_op c =
    let a = c.args.a.now in
    let one : a.kind ≡ Accumulate c.in-Accumulate.one = rw (← c.a.view_is) c.in-Accumulate.is in
    let two : c.args.b.now.kind ≡ Accumulate c.in-Accumulate-kind.two = rw (← c.b.view_is) c.in-Accumulate-kind.is in
    let told = agree_is c.args.windows.now a c.args.b.now c.in-Accumulate.one c.in-Accumulate-kind.two one two in (
      λ test. told.0 (inr (inr (inr (c.allows_no_op.ensures.0 test, c.has_one_no_op.ensures.0 c.if-has_one_no_op.true)))),
      λ agree.
          let here =
          may_here c.args.windows.now a c.in-Accumulate.one c.in-Accumulate-kind.two (λ anywhere. let yes = c.may_meet.ensures.1 anywhere in let no = c.if-may_meet.false in cc) (told.1 agree) in
          c.allows_no_op.ensures.1 here.0,
    )

pub returns-else-has_one_no_op : goal.returns-else-has_one_no_op
returns-else-has_one_no_op c =
    let a = c.args.a.now in
    let one : a.kind ≡ Accumulate c.in-Accumulate.one = rw (← c.a.view_is) c.in-Accumulate.is in
    let two : c.args.b.now.kind ≡ Accumulate c.in-Accumulate-kind.two = rw (← c.b.view_is) c.in-Accumulate-kind.is in
    let told = agree_is c.args.windows.now a c.args.b.now c.in-Accumulate.one c.in-Accumulate-kind.two one two in (
      λ test. absurd (let no = c.if-has_one_no_op.false in cc),
      λ agree.
          let here =
          may_here c.args.windows.now a c.in-Accumulate.one c.in-Accumulate-kind.two (λ anywhere. let yes = c.may_meet.ensures.1 anywhere in let no = c.if-may_meet.false in cc) (told.1 agree) in
          c.has_one_no_op.ensures.1 here.1,
    )
