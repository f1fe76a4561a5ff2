use Rattle.std.proofs.Common.{◌≡◌, ◌<◌, length, slice_get, Some, sym, ap, subst, ◌∙◌, arith, to_z, of_z}
use Rattle.std.specs.Int.{w128}
use Rattle.std.specs.Option.{IfSome}
use Rattle.std.specs.Prelude.{option_map}
use Rattle.rma_type.specs.Table.{constructor_of, ComesAfter}
use Rattle.rma_type.specs.declared.id.TypeId.{TypeId}
use Rattle.rma_layout.proofs.Words.{ints}
use Rattle.rma_layout.specs.inside.Frames.{IsExpanding, bytes_at}
use Rattle.rma_layout.proofs.OutputLemmas.{appends_same, refuses_same}
use Rattle.rma_layout.proofs.FrameLemmas.{all_of_new}
use Rattle.rma_layout.proofs.NestLemmas.{first_turn, all_full}
use Rattle.rma_layout.proofs.expand.expand.Goals as goal

pub turns-init : goal.turns-init
turns-init c =
    let origins = c.args.types.now.origins in
    let top = c.new-top.result in
    let k = c.new-top.ensures in
    let all = all_of_new origins top c.in-Some.field-0.now k.next k.count
    (subst (λ (x : TypeId). Some (Some c.in-Some.field-0.now) ≡ option_map constructor_of (slice_get origins x.0)) (sym k.id) c.in-Some.ensures.value)
    (subst (λ (x : TypeId). IfSome (slice_get origins x.0) (ComesAfter x.0)) (sym k.id) c.in-Some.ensures.after) in
    let same = ap (λ x. bytes_at origins x top.by) k.id ∙ ap (λ x. bytes_at origins c.args.id x) k.by in
    subst (λ os. IsExpanding origins c.args.output.now c.args.output.now (bytes_at origins c.args.id (to_z w128 (of_z w128 c.args.by))) top os) (sym c.new-outer.ensures.items)
    (first_turn origins c.args.output.now _ top c.requires.sound c.requires.empty
    (subst (λ (x : TypeId). x.0 < length origins) (sym k.id) c.requires.within) (subst (λ (x : TypeId). x.0 < length origins) (sym k.old) c.requires.within) k.from k.known all same)

pub returns-then-output-eq0-clause-ok : goal.returns-then-output-eq0-clause-ok
returns-then-output-eq0-clause-ok c =
    let origins = c.args.types.now.origins in
    let by : to_z w128 (of_z w128 c.args.by) ≡ c.args.by = omega (arith, ints) in
    appends_same c.args.output.now c.turns.output _ _ (ap (λ x. bytes_at origins c.args.id x) by)
    (all_full origins c.args.output.now c.turns.output (bytes_at origins c.args.id (to_z w128 (of_z w128 c.args.by))) c.turns.top c.turns.outer.items c.turns.invariant c.if-output-eq0.true)

pub returns-in-Ok-None-clause-ok : goal.returns-in-Ok-None-clause-ok
returns-in-Ok-None-clause-ok c =
    let origins = c.args.types.now.origins in
    let by : to_z w128 (of_z w128 c.args.by) ≡ c.args.by = omega (arith, ints) in
    let some : 0 < c.turns.output.left = omega arith in
    let ok = rw c.in-Ok-None.field-0-is at (c.in-Ok-None.ensures.ok c.args.output.now (bytes_at origins c.args.id (to_z w128 (of_z w128 c.args.by))) c.turns.invariant some) in
    appends_same c.args.output.now c.turn.new.output _ _ (ap (λ x. bytes_at origins c.args.id x) by) ok

pub returns-in-Err-clause-fault : goal.returns-in-Err-clause-fault
returns-in-Err-clause-fault c =
    let origins = c.args.types.now.origins in
    let by : to_z w128 (of_z w128 c.args.by) ≡ c.args.by = omega (arith, ints) in
    let some : 0 < c.turns.output.left = omega arith in
    refuses_same c.args.output.now _ _ c.in-Err.error (ap (λ x. bytes_at origins c.args.id x) by)
    (c.in-Err.ensures.fault c.args.output.now (bytes_at origins c.args.id (to_z w128 (of_z w128 c.args.by))) c.turns.invariant some)

pub turns-preserved : goal.turns-preserved
turns-preserved c =
    let origins = c.args.types.now.origins in
    let some : 0 < c.turns.output.left = omega arith in
    rw c.in-Ok-Some.field-0-is at (c.in-Ok-Some.ensures.ok c.args.output.now (bytes_at origins c.args.id (to_z w128 (of_z w128 c.args.by))) c.turns.invariant some)
