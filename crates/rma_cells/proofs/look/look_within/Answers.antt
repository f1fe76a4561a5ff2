use Rattle.std.proofs.Common.{◌≡◌, ◌∷◌, length, ap, ◌∙◌, arith, w64}
use Rattle.std.specs.List.{Contains, filter}
use Rattle.std.proofs.lemmas.Int.{to_z-of_z}
use Rattle.std.proofs.lemmas.List.Sums.{length-filter}
use Rattle.rma_cells.specs.inside.Table.{begins_within}
use Rattle.rma_cells.proofs.LookLemmas.{or_alike, left_none, range_is, look_more, begins_entries}
use Rattle.rma_cells.proofs.look.look_within.Goals as goal

pub cells-preserved : goal.cells-preserved
cells-preserved g c =
    let cell = c.in-Some.cell.now in
    let rest : c.cells.cell-iterator ≡ (c.in-Some.field-0-0.now, cell) ∷ c.next.new.self = c.in-Some.ensures.steps in
    let shorter = ap length rest in
    let more = look_more c.cells.out.items c.extend_from_slice.new.self.items (c.in-Some.field-0-0.now, cell) c.cells.cell-iterator c.next.new.self rest (rw (← c.ids.ensures) c.in_ok-extend_from_slice.ensures.items) in
    let ticked = c.tick.ensures in
    let steps = c.cells.invariant.steps in
    record { ids = λ id. (λ x. (c.cells.invariant.ids id).0 ((more id).0 x), λ x. (more id).1 ((c.cells.invariant.ids id).1 x)); steps = omega arith }

pub returns-in_err-extend_from_slice-clause-steps : goal.returns-in_err-extend_from_slice-clause-steps
returns-in_err-extend_from_slice-clause-steps g c =
    let start = to_z-of_z w64 c.args.start c.ranges.start in
    let end = to_z-of_z w64 c.args.end c.ranges.end in
    let all : c.into_iter-cell-iterator.result ≡ filter (begins_within c.args.start c.args.end) c.args.map.now.entries =
    range_is c.args.map.now c.into_iter-cell-iterator.result c.range-cell-items.result c.args.start _ c.args.end _ start end c.into_iter-cell-iterator.ensures.into_iter_gives (c.range-cell-items.ensures.between tt) in
    let count = ap length all ∙ length-filter (begins_within c.args.start c.args.end) c.args.map.now.entries in
    let steps = c.cells.invariant.steps in
    let rest : c.cells.cell-iterator ≡ (c.in-Some.field-0-0.now, c.in-Some.cell.now) ∷ c.next.new.self = c.in-Some.ensures.steps in
    let shorter = ap length rest in
    let ticked = c.tick.ensures in
    omega arith

pub returns-clause-steps : goal.returns-clause-steps
returns-clause-steps g c =
    let start = to_z-of_z w64 c.args.start c.ranges.start in
    let end = to_z-of_z w64 c.args.end c.ranges.end in
    let all : c.into_iter-cell-iterator.result ≡ filter (begins_within c.args.start c.args.end) c.args.map.now.entries =
    range_is c.args.map.now c.into_iter-cell-iterator.result c.range-cell-items.result c.args.start _ c.args.end _ start end c.into_iter-cell-iterator.ensures.into_iter_gives (c.range-cell-items.ensures.between tt) in
    let count = ap length all ∙ length-filter (begins_within c.args.start c.args.end) c.args.map.now.entries in
    let steps = c.cells.invariant.steps in
    omega arith

pub returns-clause-ids : goal.returns-clause-ids
returns-clause-ids g c id =
    let start = to_z-of_z w64 c.args.start c.ranges.start in
    let end = to_z-of_z w64 c.args.end c.ranges.end in
    let all : c.into_iter-cell-iterator.result ≡ filter (begins_within c.args.start c.args.end) c.args.map.now.entries =
    range_is c.args.map.now c.into_iter-cell-iterator.result c.range-cell-items.result c.args.start _ c.args.end _ start end c.into_iter-cell-iterator.ensures.into_iter_gives (c.range-cell-items.ensures.between tt) in
    let begins = begins_entries c.args.map.now c.requires.ordered c.args.start c.args.end id in
    let came = left_none c.cells.out.items c.args.out.now.items c.cells.cell-iterator c.into_iter-cell-iterator.result c.in-None.ensures.steps.0 id (c.cells.invariant.ids id) in
    or_alike (Contains c.cells.out.items id) (Contains c.args.out.now.items id) _ _ came (rw all begins)
