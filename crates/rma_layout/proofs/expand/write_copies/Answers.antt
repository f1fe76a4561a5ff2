use Rattle.std.proofs.Common.{◌≡◌, ◌-◌, ◌+ℤ◌, suc, sym, ap, ◌∙◌, arith, to_z, of_z}
use Rattle.std.specs.Int.{w128}
use Rattle.rma_layout.proofs.Words.{ints, copies, moved, typemap_bytes}
use Rattle.rma_layout.proofs.BytesLemmas.{copies_zero, copies_suc}
use Rattle.rma_layout.proofs.OutputLemmas.{on_ok, on_err, appends_none, appends_same, refuses_same, refuses_first}
use Rattle.rma_layout.proofs.NestLemmas.{copied_first, refused_first, later_copies}
use Rattle.rma_typemap.specs.Bounds.{extent}
use Rattle.rma_typemap.specs.declared.made.Made.{Made}
use Rattle.rma_type.proofs.Words.{typemaps, typemap_in}
use Rattle.rma_layout.proofs.expand.write_copies.Goals as goal

pub returns-then-count-eq0-clause-ok : goal.returns-then-count-eq0-clause-ok
returns-then-count-eq0-clause-ok c =
    let m = typemap_in (typemaps c.args.types.now.origins) c.args.id in
    appends_none c.args.output.now _ c.requires.sound (ap (λ n. copies n c.args.by (extent m) (typemap_bytes m)) c.if-count-eq0.true ∙ copies_zero c.args.by (extent m) (typemap_bytes m))

pub returns-in-Err-clause-fault : goal.returns-in-Err-clause-fault
returns-in-Err-clause-fault c =
    let m = typemap_in (typemaps c.args.types.now.origins) c.args.id in
    let bs = typemap_bytes m in
    let count : c.args.count ≡ suc (c.args.count - 1) = omega arith in
    let by : to_z w128 (of_z w128 c.args.by) ≡ c.args.by = omega (arith, ints) in
    refuses_same c.args.output.now _ _ c.in-Err.error (sym (ap (λ n. copies n c.args.by (extent m) bs) count ∙ copies_suc (c.args.count - 1) c.args.by (extent m) bs))
    (refuses_first c.args.output.now (moved c.args.by bs) (copies (c.args.count - 1) (c.args.by +ℤ extent m) (extent m) bs) c.in-Err.error
    (refuses_same c.args.output.now _ _ c.in-Err.error (ap (λ x. moved x bs) by) c.in-Err.ensures.fault))

pub returns-clause-ok : goal.returns-clause-ok
returns-clause-ok c =
    let o = c.args.output.now in
    let p = c.first.new.output in
    let m = typemap_in (typemaps c.args.types.now.origins) c.args.id in
    let bs = typemap_bytes m in
    let n = c.from-2.result - 1 in
    let d = c.new-extent.result in
    let by : to_z w128 (of_z w128 c.args.by) ≡ c.args.by = omega (arith, ints) in
    let made = ap (λ (x : Made). x.extent) c.made.ensures in
    let distance : d ≡ extent m = omega (arith, ints, c.new-extent.ensures, c.from.ensures, made) in
    let count : c.args.count ≡ suc n = omega (arith, c.from-2.ensures) in
    let h = appends_same o p _ _ (ap (λ x. moved x bs) by) c.in_default.ensures.ok in
    on_ok c.again.result _ _ (λ k. appends_same o c.again.new.self _ _ (later_copies c.args.count n c.args.by d (extent m) bs count distance)
    (copied_first o p (moved c.args.by bs) n d c.requires.empty h c.again.new.self k)) c.again.ensures.ok

pub returns-clause-fault : goal.returns-clause-fault
returns-clause-fault c =
    let o = c.args.output.now in
    let p = c.first.new.output in
    let m = typemap_in (typemaps c.args.types.now.origins) c.args.id in
    let bs = typemap_bytes m in
    let n = c.from-2.result - 1 in
    let d = c.new-extent.result in
    let by : to_z w128 (of_z w128 c.args.by) ≡ c.args.by = omega (arith, ints) in
    let made = ap (λ (x : Made). x.extent) c.made.ensures in
    let distance : d ≡ extent m = omega (arith, ints, c.new-extent.ensures, c.from.ensures, made) in
    let count : c.args.count ≡ suc n = omega (arith, c.from-2.ensures) in
    let h = appends_same o p _ _ (ap (λ x. moved x bs) by) c.in_default.ensures.ok in
    on_err c.again.result _ _ (λ e k. refuses_same o _ _ e (later_copies c.args.count n c.args.by d (extent m) bs count distance)
    (refused_first o p (moved c.args.by bs) n d c.requires.empty h e k)) c.again.ensures.fault
