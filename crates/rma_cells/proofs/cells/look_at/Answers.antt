use Rattle.std.proofs.Common.{◌+◌, ◌∙◌, arith, rules, w64, count_by}
use Rattle.std.specs.Int.RustNames.{FitsSigned}
use Rattle.std.proofs.lemmas.Int.{to_z-of_z}
use Rattle.rma_bytes.specs.declared.run.Run.{Run}
use Rattle.rma_cells.specs.Looks.{is_met}
use Rattle.rma_cells.specs.inside.Table.{table}
use Rattle.std.proofs.lemmas.List.Sums.{sum_by-take-le}
use Rattle.rma_cells.proofs.LookLemmas.{count_met}
use Rattle.rma_cells.proofs.ByteLemmas.{at_bounds, at_some, look_none, look_step, looks_step, looks_within, looked_all}
use Rattle.rma_cells.proofs.cells.look_at.Goals as goal

pub runs-init : goal.runs-init
runs-init g c = record { ids = look_none (table c.args.map.now) c.args.runs.now c.args.out.now.items; steps = omega arith }

pub end-requires : goal.end-requires
end-requires g c = at_bounds c.args.runs.now c.runs.i c.get-run.result c.get-run.ensures.canonical c.get-run.ensures.value

pub look-requires-clause-some : goal.look-requires-clause-some
look-requires-clause-some g c =
    let fits : FitsSigned w64 c.get-run.result.start = search rules in
    let end_fits : FitsSigned w64 c.end.result = search rules in
    let same = to_z-of_z w64 c.get-run.result.start fits in
    let same_end = to_z-of_z w64 c.end.result end_fits in
    rw (same, same_end, c.end.ensures) (at_some c.args.runs.now c.runs.i c.get-run.result c.get-run.ensures.canonical c.get-run.ensures.value)

pub returns-in_err-look-clause-steps : goal.returns-in_err-look-clause-steps
returns-in_err-look-clause-steps g c =
    let run = c.get-run.result in
    let fits : FitsSigned w64 run.start = search rules in
    let end_fits : FitsSigned w64 c.end.result = search rules in
    let same = to_z-of_z w64 run.start fits in
    let same_end = to_z-of_z w64 c.end.result end_fits ∙ c.end.ensures in
    let told = rw same_end at (rw same at c.look.ensures.steps) in
    let met = count_met c.args.map.now c.requires.ordered c.requires.sound run in
    let all = looks_within c.args.runs.now c.runs.i run c.get-run.ensures.canonical c.get-run.ensures.value c.args.map.now.entries in
    let before = c.runs.invariant.steps in
    omega arith

pub runs-preserved : goal.runs-preserved
runs-preserved g c =
    let run = c.get-run.result in
    let fits : FitsSigned w64 run.start = search rules in
    let end_fits : FitsSigned w64 c.end.result = search rules in
    let same = to_z-of_z w64 run.start fits in
    let same_end = to_z-of_z w64 c.end.result end_fits ∙ c.end.ensures in
    let steps = rw same_end at (rw same at c.look.ensures.steps) in
    let told = rw same_end at (rw same at c.in_ok-look.ensures.ids) in
    let met = count_met c.args.map.now c.requires.ordered c.requires.sound run in
    let more = looks_step c.args.runs.now c.runs.i run c.get-run.ensures.canonical c.get-run.ensures.value c.args.map.now.entries in
    let before = c.runs.invariant.steps in
    record {
      ids = look_step c.args.runs.now c.runs.i run c.get-run.ensures.canonical c.get-run.ensures.value (table c.args.map.now) c.args.out.now.items c.runs.out.items c.look.new.out.items c.runs.invariant.ids told;
      steps = omega arith;
    }

pub returns-clause-ids : goal.returns-clause-ids
returns-clause-ids g c = looked_all (table c.args.map.now) c.args.runs.now c.runs.i c.args.out.now.items c.runs.out.items (omega arith) c.runs.invariant.ids

pub returns-clause-steps : goal.returns-clause-steps
returns-clause-steps g c =
    let before = c.runs.invariant.steps in
    let all = sum_by-take-le (λ (r : Run). count_by (is_met r) c.args.map.now.entries + 1) c.args.runs.now c.runs.i in
    omega arith
