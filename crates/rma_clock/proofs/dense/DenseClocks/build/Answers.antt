use Rattle.std.proofs.Common.{◌≡◌, ◌++◌, List, ℕ, [], ◌∷◌, length, get_or, set, sym, ap, subst, ◌∙◌, arith}
use Rattle.std.proofs.lemmas.List.{get_or_read}
use Rattle.rma_base.specs.declared.point.Point.{Point}
use Rattle.rma_walk.specs.declared.source.Source.{Source}
use Rattle.rma_walk.specs.Source.{AreSources}
use Rattle.rma_clock.specs.inside.Dense.{AreBefore, rows_of}
use Rattle.rma_clock.proofs.DenseLemmas.{next_point, next_fits, held_before, filled_more, dense_of}
use Rattle.rma_clock.proofs.dense.DenseClocks.build.Goals as goal

pub row_after-requires-clause-sources : goal.row_after-requires-clause-sources
row_after-requires-clause-sources c =
    let lens = c.args.lens.now in
    let links = c.args.links.now in
    let rows = c.loop-point.clocks.rows.items in
    let i = c.loop-point.point-index in
    let d : Point = record { rank = record { 0 = 0 }; pos = 0 } in
    let q = get_or c.args.order.now i d in
    let point = next_point lens links c.args.order.now c.requires.links c.requires.calls c.requires.order i rows c.loop-point.invariant d c.loop-point-test.true in
    let are = c.in_ok-sources.ensures lens links c.requires.links (subst (AreSources lens links) (sym c.as_slice.ensures.value) c.in_ok-inboxes.ensures) point in
    let B : List Source → Type 0 = λ xs. AreBefore (length rows) links q xs in
    subst B (sym c.as_slice-in-loop-point.ensures) (subst (λ n. AreBefore n links q c.in_ok-sources.sources) (sym c.loop-point.invariant.dense.size) are)

pub row_after-requires-clause-held : goal.row_after-requires-clause-held
row_after-requires-clause-held c =
    held_before c.args.lens.now c.args.links.now c.args.order.now c.requires.links c.requires.calls c.requires.order c.loop-point.point-index c.loop-point.clocks.rows.items c.loop-point.invariant _ c.loop-point-test.true

pub loop-point-preserved : goal.loop-point-preserved
loop-point-preserved c =
    let rows = c.loop-point.clocks.rows.items in
    let i = c.loop-point.point-index in
    let d : Point = record { rank = record { 0 = 0 }; pos = 0 } in
    let q = get_or c.args.order.now i d in
    let there = (next_fits c.args.lens.now c.args.links.now c.args.order.now c.requires.links c.requires.calls c.requires.order i rows c.loop-point.invariant d c.loop-point-test.true).0 in
    let read : c.index_mut.result.now ≡ rows_of rows q.rank.0 = get_or_read rows q.rank.0 c.index_mut.result.now there c.index_mut.ensures.value [] in
    let row = c.in_ok-row.row in
    let more : set rows q.rank.0 c.push.new.self ≡ set rows q.rank.0 (rows_of rows q.rank.0 ++ row ∷ []) =
    ap (set rows q.rank.0) (c.in_ok-push.ensures.ok ∙ ap (λ (xs : List (List ℕ)). xs ++ row ∷ []) read) in
    filled_more c.args.lens.now c.args.links.now c.args.order.now c.requires.links c.requires.calls c.requires.order i rows c.loop-point.invariant d c.loop-point-test.true _ row more c.in_ok-row.ensures

pub returns : goal.returns
returns c = dense_of c.args.lens.now c.args.links.now c.args.order.now c.loop-point.point-index c.loop-point.clocks c.requires.order c.loop-point.invariant (omega arith)
