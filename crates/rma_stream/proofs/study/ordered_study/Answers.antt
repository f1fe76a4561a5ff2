use Rattle.std.proofs.Common.{map, ap, ◌∙◌}
use Rattle.rma_stream.specs.Findings.{impossible}
use Rattle.rma_stream.proofs.StudyLemmas.{early_by_impossible}
use Rattle.rma_stream.proofs.study.ordered_study.Goals as goal

pub returns-in_ok-found-in-Impossible : goal.returns-in_ok-found-in-Impossible
returns-in_ok-found-in-Impossible c =
    let are = rw c.in-Impossible.is at c.in_ok-found.ensures in
    early_by_impossible c.args.calls.now c.in-Impossible.found are.0 are.1 c.in_ok-found-in-Impossible.found (c.in_ok-found-in-Impossible.ensures ∙ ap (map impossible) c.as_slice.ensures)
