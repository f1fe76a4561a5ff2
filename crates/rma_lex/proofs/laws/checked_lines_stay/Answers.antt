use Rattle.rma_lex.proofs.CheckLemmas.{length_checked_lines, checked_lines_more}
use Rattle.rma_lex.proofs.laws.checked_lines_stay.Goals as goal

pub returns-clause-as_many : goal.returns-clause-as_many
returns-clause-as_many c = length_checked_lines

pub returns-clause-stay : goal.returns-clause-stay
returns-clause-stay c = checked_lines_more
