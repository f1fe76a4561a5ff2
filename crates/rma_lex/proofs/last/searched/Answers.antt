use Rattle.std.proofs.Common.{◌+◌}
use Rattle.rma_lex.proofs.LastLemmas.{field_behind}
use Rattle.rma_lex.proofs.last.searched.Goals as goal

pub returns-in-Some-clause-behind : goal.returns-in-Some-clause-behind
returns-in-Some-clause-behind c = field_behind (c.in-Some.place + 1) c.args.line.now c.in-Some.ensures.0.after

pub returns-in-None-clause-none : goal.returns-in-None-clause-none
returns-in-None-clause-none c _ = field_behind 0 c.args.line.now c.in-None.ensures
