use Rattle.std.proofs.Common.{◌∙◌, arith, rules, w64}
use Rattle.std.specs.Int.RustNames.{FitsSigned}
use Rattle.std.proofs.lemmas.Int.{to_z-of_z}
use Rattle.rma_cells.specs.inside.Table.{table}
use Rattle.rma_cells.proofs.ByteLemmas.{at_bounds, at_some, add_step, add_away, added_all, undone, stands_on_first}
use Rattle.rma_cells.proofs.cells.add_runs.Goals as goal

pub end-requires : goal.end-requires
end-requires c = at_bounds c.args.runs.now c.runs.i c.get-run.result c.get-run.ensures.canonical c.get-run.ensures.value

pub add_run-requires-clause-some : goal.add_run-requires-clause-some
add_run-requires-clause-some c =
    let fits : FitsSigned w64 c.get-run.result.start = search rules in
    let end_fits : FitsSigned w64 c.end.result = search rules in
    let same = to_z-of_z w64 c.get-run.result.start fits in
    let same_end = to_z-of_z w64 c.end.result end_fits in
    rw (same, same_end, c.end.ensures) (at_some c.args.runs.now c.runs.i c.get-run.result c.get-run.ensures.canonical c.get-run.ensures.value)

pub add_run-requires-clause-away : goal.add_run-requires-clause-away
add_run-requires-clause-away c =
    let fits : FitsSigned w64 c.get-run.result.start = search rules in
    let end_fits : FitsSigned w64 c.end.result = search rules in
    let same = to_z-of_z w64 c.get-run.result.start fits in
    let same_end = to_z-of_z w64 c.end.result end_fits ∙ c.end.ensures in
    rw same (rw same_end (add_away c.args.runs.now c.runs.i c.get-run.result c.get-run.ensures.canonical c.get-run.ensures.value (table c.args.map.now) (table c.runs.map) c.args.id c.requires.absent c.runs.invariant.stands))

pub remove_first-requires-clause-there : goal.remove_first-requires-clause-there
remove_first-requires-clause-there c b =
    let on = stands_on_first c.args.runs.now (table c.args.map.now) (table c.runs.map) c.args.id c.runs.i c.requires.absent c.runs.invariant.stands b in
    let alike = c.in-Err.ensures.err c.args.id b in
    (λ x. on.0 (alike.0 x), λ x. alike.1 (on.1 x))

pub returns-in-Err-clause-err : goal.returns-in-Err-clause-err
returns-in-Err-clause-err c =
    undone c.args.runs.now (table c.args.map.now) (table c.add_run.new.map) (table c.remove_first.new.map) c.args.id c.runs.i c.requires.absent
    (λ other b. let alike = c.in-Err.ensures.err other b in let inv = c.runs.invariant.stands other b in (λ x. inv.0 (alike.0 x), λ x. alike.1 (inv.1 x)))
    c.remove_first.ensures.stands

pub runs-preserved : goal.runs-preserved
runs-preserved c =
    let fits : FitsSigned w64 c.get-run.result.start = search rules in
    let end_fits : FitsSigned w64 c.end.result = search rules in
    let same = to_z-of_z w64 c.get-run.result.start fits in
    let same_end = to_z-of_z w64 c.end.result end_fits ∙ c.end.ensures in
    let told = rw same_end at (rw same at c.in_default.ensures.stands) in
    record {
      ordered = c.add_run.ensures.ordered;
      normal = c.add_run.ensures.normal;
      stands = add_step c.args.runs.now c.runs.i c.get-run.result c.get-run.ensures.canonical c.get-run.ensures.value (table c.args.map.now) (table c.runs.map) (table c.add_run.new.map) c.args.id c.runs.invariant.stands told;
    }

pub returns-clause-stands : goal.returns-clause-stands
returns-clause-stands c =
    added_all c.args.runs.now (table c.args.map.now) (table c.runs.map) c.args.id c.runs.i (omega arith) c.runs.invariant.stands
