use Rattle.std.proofs.Common.{◌≡◌, ℤ, ◌++◌, ◌↔◌, take, refl, sym, ap, subst, ◌∙◌, arith, to_z, of_z}
use Rattle.std.specs.Int.{w128}
use Rattle.std.specs.List.{All}
use Rattle.rma_bytes.specs.Runs.{HasByte, SameBytes}
use Rattle.rma_typemap.specs.Bounds.{extent}
use Rattle.rma_layout.proofs.Words.{ints, bytes_of, bytes_in, typemap_bytes, copies, written, false≢true}
use Rattle.rma_layout.specs.Touched.{touched}
use Rattle.rma_layout.specs.inside.Bytes.{IsAmong, IsBlockIn}
use Rattle.rma_layout.proofs.PlaceLemmas.{many_elements, error_of, all_touched, refused_space, taken, layout_of}
use Rattle.rma_type.proofs.Words.{typemaps, typemap_in}
use Rattle.rma_layout.proofs.placement.place.Goals as goal

pub returns-then-entries-gt-ELEMENTS-clause-fault : goal.returns-then-entries-gt-ELEMENTS-clause-fault
returns-then-entries-gt-ELEMENTS-clause-fault c = many_elements c.args.space _ c.args.entries (omega arith)

pub returns-in-Err-clause-fault : goal.returns-in-Err-clause-fault
returns-in-Err-clause-fault c =
    let m = typemap_in (typemaps c.args.types.now.origins) c.args.datatype in
    let start = c.new-output.result in
    let es = touched m c.args.count c.args.address c.args.entries in
    let by : to_z w128 (of_z w128 c.from-by.result) ≡ c.args.address = omega (arith, ints, c.from-by.ensures) in
    let total = c.in_ok-total.ensures.ok c.args.count c.args.address c.requires.there in
    error_of c.args.space es c.args.entries _ c.in-Err.error (omega arith)
    (ap (λ x. written start ++ take start.left (copies c.args.count x (extent m) (typemap_bytes m))) by
    ∙ all_touched m c.args.count c.args.address c.args.entries start c.new-output.ensures.none (c.new-output.ensures.all ∙ total))
    c.in-Err.ensures.fault

pub returns-then-not-has_all-clause-fault : goal.returns-then-not-has_all-clause-fault
returns-then-not-has_all-clause-fault c =
    let m = typemap_in (typemaps c.args.types.now.origins) c.args.datatype in
    let out = c.write_copies.new.output in
    let es = touched m c.args.count c.args.address c.args.entries in
    let by : to_z w128 (of_z w128 c.from-by.result) ≡ c.args.address = omega (arith, ints, c.from-by.ensures) in
    let total = c.in_ok-total.ensures.ok c.args.count c.args.address c.requires.there in
    let start = c.new-output.result in
    let is : written out ≡ bytes_in es = c.in_default.ensures.ok.bytes_are ∙ ap (λ x. written start ++ take start.left (copies c.args.count x (extent m) (typemap_bytes m))) by
    ∙ all_touched m c.args.count c.args.address c.args.entries start c.new-output.ensures.none (c.new-output.ensures.all ∙ total) in
    refused_space c.args.space es c.args.entries out c.in_default.ensures.ok.sound is (omega arith)
    (λ h. false≢true (c.if-not-has_all.ensures.1 (subst (All (IsBlockIn c.args.space)) (sym c.as_slice.ensures) h)))

pub returns-in-Ok-new-clause-ok : goal.returns-in-Ok-new-clause-ok
returns-in-Ok-new-clause-ok c =
    let m = typemap_in (typemaps c.args.types.now.origins) c.args.datatype in
    let out = c.write_copies.new.output in
    let es = touched m c.args.count c.args.address c.args.entries in
    let by : to_z w128 (of_z w128 c.from-by.result) ≡ c.args.address = omega (arith, ints, c.from-by.ensures) in
    let total = c.in_ok-total.ensures.ok c.args.count c.args.address c.requires.there in
    let start = c.new-output.result in
    let is : written out ≡ bytes_in es = c.in_default.ensures.ok.bytes_are ∙ ap (λ x. written start ++ take start.left (copies c.args.count x (extent m) (typemap_bytes m))) by
    ∙ all_touched m c.args.count c.args.address c.args.entries start c.new-output.ensures.none (c.new-output.ensures.all ∙ total) in
    let given = c.in_ok-blocks.blocks.items in
    let bytes : (b : ℤ) → HasByte given b ↔ IsAmong (bytes_of out.blocks.items) b =
    λ b. subst (λ bs. HasByte given b ↔ IsAmong (bytes_of bs) b) c.as_slice-2.ensures (c.in_ok-blocks.ensures.bytes b) in
    rw c.in-Ok-new.ensures
    (layout_of es out.blocks.items is given c.in-Ok.runs c.in_ok-total.total total bytes (subst (λ rs. SameBytes c.in-Ok.runs rs) c.as_slice-3.ensures c.in-Ok.ensures.bytes) c.in-Ok.ensures.canonical
    c.common_element-element.result c.bytes_of.result c.bytes_of.ensures (c.common_element-element.ensures c.args.count c.args.address c.requires.there))

pub returns-in-Ok-new-clause-taken : goal.returns-in-Ok-new-clause-taken
returns-in-Ok-new-clause-taken c =
    let m = typemap_in (typemaps c.args.types.now.origins) c.args.datatype in
    let out = c.write_copies.new.output in
    let es = touched m c.args.count c.args.address c.args.entries in
    let by : to_z w128 (of_z w128 c.from-by.result) ≡ c.args.address = omega (arith, ints, c.from-by.ensures) in
    let total = c.in_ok-total.ensures.ok c.args.count c.args.address c.requires.there in
    let start = c.new-output.result in
    let is : written out ≡ bytes_in es = c.in_default.ensures.ok.bytes_are ∙ ap (λ x. written start ++ take start.left (copies c.args.count x (extent m) (typemap_bytes m))) by
    ∙ all_touched m c.args.count c.args.address c.args.entries start c.new-output.ensures.none (c.new-output.ensures.all ∙ total) in
    taken c.args.space es c.args.entries out c.in_default.ensures.ok.sound is (omega arith)
    (subst (All (IsBlockIn c.args.space)) c.as_slice.ensures (c.if-not-has_all.ensures.0 refl))
