use Rattle.rma_type.proofs.Words.{rest_from}
use Rattle.rma_type.proofs.CursorLemmas.{part_left}
use Rattle.rma_type.proofs.prefix.passed.Goals as goal

pub returns-then-shared-cursor-clause-rest : goal.returns-then-shared-cursor-clause-rest
returns-then-shared-cursor-clause-rest c =
    let cursor = c.args.cursor in
    part_left c.args.shared cursor.left cursor.basic (rest_from c.args.runs.now cursor.next cursor.more) c.requires.within
