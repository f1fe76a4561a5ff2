use Rattle.std.proofs.Common.{◌≡◌, ◌*◌, ◌++◌, length, get_or, replicate, ap, ◌∙◌, arith}
use Rattle.rma_type.proofs.Words.{rest_from}
use Rattle.rma_type.proofs.RunLemmas.{no_run}
use Rattle.rma_type.proofs.CursorLemmas.{rest_of_one}
use Rattle.rma_type.proofs.prefix.first.Goals as goal

pub returns-in-len1-clause-rest : goal.returns-in-len1-clause-rest
returns-in-len1-clause-rest c =
    let runs = c.args.runs.now in
    let run = get_or runs 0 no_run in
    let one : length runs ≡ 1 = omega arith in
    ap (λ n. replicate (n * run.count) run.basic ++ rest_from runs 1 0) c.from.ensures ∙ rest_of_one runs c.args.count one
