use Rattle.rma_lex.proofs.LineLemmas.{All_lines, joined_lines, lines_joined}
use Rattle.rma_lex.proofs.laws.lines_make_the_text.Goals as goal

pub returns-clause-no_line_feed : goal.returns-clause-no_line_feed
returns-clause-no_line_feed c = All_lines

pub returns-clause-joined : goal.returns-clause-joined
returns-clause-joined c = joined_lines

pub returns-clause-only : goal.returns-clause-only
returns-clause-only c = lines_joined
