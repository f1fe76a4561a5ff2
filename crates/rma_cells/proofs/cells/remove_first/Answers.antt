use Rattle.std.proofs.Common.{◌≡◌, ◌∙◌, arith, rules, w64}
use Rattle.std.specs.Int.RustNames.{FitsSigned}
use Rattle.std.proofs.lemmas.Int.{ints, to_z-of_z}
use Rattle.rma_cells.specs.inside.Table.{table}
use Rattle.rma_cells.proofs.ByteLemmas.{at_bounds, at_some, remove_step, remove_there, remove_first, remove_last, removed_all}
use Rattle.rma_cells.proofs.cells.remove_first.Goals as goal

pub end-requires : goal.end-requires
end-requires c = at_bounds c.args.runs.now c.runs.i c.get-run.result c.get-run.ensures.canonical c.get-run.ensures.value

pub remove_run-requires-clause-some : goal.remove_run-requires-clause-some
remove_run-requires-clause-some c =
    let fits : FitsSigned w64 c.get-run.result.start = search rules in
    let end_fits : FitsSigned w64 c.end.result = search rules in
    let same = to_z-of_z w64 c.get-run.result.start fits in
    let same_end = to_z-of_z w64 c.end.result end_fits in
    rw (same, same_end, c.end.ensures) (at_some c.args.runs.now c.runs.i c.get-run.result c.get-run.ensures.canonical c.get-run.ensures.value)

pub remove_run-requires-clause-there : goal.remove_run-requires-clause-there
remove_run-requires-clause-there c =
    let fits : FitsSigned w64 c.get-run.result.start = search rules in
    let end_fits : FitsSigned w64 c.end.result = search rules in
    let same = to_z-of_z w64 c.get-run.result.start fits in
    let same_end = to_z-of_z w64 c.end.result end_fits ∙ c.end.ensures in
    λ b on. remove_there c.args.runs.now c.runs.i c.get-run.result c.get-run.ensures.canonical c.get-run.ensures.value (table c.args.map.now) (table c.runs.map) c.args.id c.args.count (omega arith) c.requires.there c.runs.invariant.stands b (omega (arith, ints, on.0), omega (arith, ints, on.1))

pub remove_run-requires-clause-first : goal.remove_run-requires-clause-first
remove_run-requires-clause-first c =
    let fits : FitsSigned w64 c.get-run.result.start = search rules in
    let same = to_z-of_z w64 c.get-run.result.start fits in
    rw same (remove_first c.args.runs.now c.runs.i c.get-run.result c.get-run.ensures.canonical c.get-run.ensures.value (table c.args.map.now) (table c.runs.map) c.args.id c.args.count (omega arith) c.requires.there c.runs.invariant.stands)

pub remove_run-requires-clause-last : goal.remove_run-requires-clause-last
remove_run-requires-clause-last c =
    let end_fits : FitsSigned w64 c.end.result = search rules in
    let same_end = to_z-of_z w64 c.end.result end_fits ∙ c.end.ensures in
    rw same_end (remove_last c.args.runs.now c.runs.i c.get-run.result c.get-run.ensures.canonical c.get-run.ensures.value (table c.args.map.now) (table c.runs.map) c.args.id c.args.count (omega arith) c.requires.there c.runs.invariant.stands)

pub runs-preserved : goal.runs-preserved
runs-preserved c =
    let fits : FitsSigned w64 c.get-run.result.start = search rules in
    let end_fits : FitsSigned w64 c.end.result = search rules in
    let same = to_z-of_z w64 c.get-run.result.start fits in
    let same_end = to_z-of_z w64 c.end.result end_fits ∙ c.end.ensures in
    let told = rw same_end at (rw same at c.remove_run.ensures.stands) in
    record {
      ordered = c.remove_run.ensures.ordered;
      normal = c.remove_run.ensures.normal;
      stands = remove_step c.args.runs.now c.runs.i c.get-run.result c.get-run.ensures.canonical c.get-run.ensures.value (table c.args.map.now) (table c.runs.map) (table c.remove_run.new.map) c.args.id c.runs.invariant.stands told;
    }

pub returns-clause-stands : goal.returns-clause-stands
returns-clause-stands c =
    let e : c.runs.i ≡ c.args.count = omega arith in
    removed_all c.args.runs.now (table c.args.map.now) (table c.runs.map) c.args.id c.args.count c.requires.there (rw e at c.runs.invariant.stands)
