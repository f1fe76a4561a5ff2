use Rattle.std.proofs.Common.{◌+◌, ◌*◌, sym, ap, ◌∙◌, arith}
use mir.Syntax.{w64}
use Rattle.std.proofs.lemmas.Int.{ints, to_z_pos}
use Rattle.rma_bytes.specs.Layout.{Layout}
use Rattle.rma_call.specs.Rma.{access_of}
use Rattle.rma_touch.specs.Touch.{kind_at_target}
use Rattle.rma_touch.proofs.InsideLemmas.{address, near, not_empty, there, touched}
use Rattle.rma_touch.proofs.target.touch_in.Goals as goal

pub overflow_mul-by : goal.overflow_mul-by
overflow_mul-by c =
    let start = near c.args.part c.displacement.result c.displacement-2.result c.from.result c.at_target-layout.result.now.runs c.is_empty.ensures.in_order
    (sym c.touches_outside.ensures ∙ c.if-touches_outside.false) c.requires (c.displacement-2.ensures ∙ sym c.displacement.ensures) c.from.ensures
    (not_empty c.is_empty.result c.at_target-layout.result.now.runs c.is_empty.ensures.empty c.if-is_empty.false) in
    omega (arith, start)

pub overflow_add-by : goal.overflow_add-by
overflow_add-by c =
    let start = address c.args.part c.displacement.result c.displacement-2.result c.from.result c.at_target-layout.result.now.runs c.is_empty.ensures.in_order
    (sym c.touches_outside.ensures ∙ c.if-touches_outside.false) c.requires (c.displacement-2.ensures ∙ sym c.displacement.ensures) c.from.ensures
    (not_empty c.is_empty.result c.at_target-layout.result.now.runs c.is_empty.ensures.empty c.if-is_empty.false) in omega (arith, start)

pub overflow_cast-by : goal.overflow_cast-by
overflow_cast-by c =
    let start = address c.args.part c.displacement.result c.displacement-2.result c.from.result c.at_target-layout.result.now.runs c.is_empty.ensures.in_order
    (sym c.touches_outside.ensures ∙ c.if-touches_outside.false) c.requires (c.displacement-2.ensures ∙ sym c.displacement.ensures) c.from.ensures
    (not_empty c.is_empty.result c.at_target-layout.result.now.runs c.is_empty.ensures.empty c.if-is_empty.false) in omega (arith, ints, start)

pub of_target-requires : goal.of_target-requires
of_target-requires c =
    let start = address c.args.part c.displacement.result c.displacement-2.result c.from.result c.at_target-layout.result.now.runs c.is_empty.ensures.in_order
    (sym c.touches_outside.ensures ∙ c.if-touches_outside.false) c.requires (c.displacement-2.ensures ∙ sym c.displacement.ensures) c.from.ensures
    (not_empty c.is_empty.result c.at_target-layout.result.now.runs c.is_empty.ensures.empty c.if-is_empty.false) in
    rw (to_z_pos w64 (c.args.part.base + c.displacement-2.result * c.from.result) (omega (arith, start)))
    (there c.args.part c.displacement.result c.displacement-2.result c.from.result c.at_target-layout.result.now.runs c.is_empty.ensures.in_order
    (sym c.touches_outside.ensures ∙ c.if-touches_outside.false) c.requires (c.displacement-2.ensures ∙ sym c.displacement.ensures) c.from.ensures)

pub returns : goal.returns
returns c =
    let start = address c.args.part c.displacement.result c.displacement-2.result c.from.result c.at_target-layout.result.now.runs c.is_empty.ensures.in_order
    (sym c.touches_outside.ensures ∙ c.if-touches_outside.false) c.requires (c.displacement-2.ensures ∙ sym c.displacement.ensures) c.from.ensures
    (not_empty c.is_empty.result c.at_target-layout.result.now.runs c.is_empty.ensures.empty c.if-is_empty.false) in
    rw (c.of_target.ensures, to_z_pos w64 (c.args.part.base + c.displacement-2.result * c.from.result) (omega (arith, start)))
    (touched c.args.part c.displacement.result c.displacement-2.result c.from.result c.at_target-layout.result.now.runs c.is_empty.ensures.in_order
    (sym c.touches_outside.ensures ∙ c.if-touches_outside.false) c.requires (c.displacement-2.ensures ∙ sym c.displacement.ensures) c.from.ensures
    c.args.window c.args.target (access_of c.args.access) c.kind_at_target.result c.element.result (sym c.displacement.ensures) (ap (λ (l : Layout). l.runs) (sym c.at_target-layout.ensures))
    (not_empty c.is_empty.result c.at_target-layout.result.now.runs c.is_empty.ensures.empty c.if-is_empty.false)
    (c.kind_at_target.ensures ∙ ap kind_at_target c.kind.ensures)
    (c.element.ensures ∙ ap (λ (l : Layout). l.element) c.at_target-layout.ensures))
