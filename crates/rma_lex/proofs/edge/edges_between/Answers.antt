use Rattle.rma_lex.proofs.EdgeLemmas.{edges_lowest, edges_others}
use Rattle.rma_lex.proofs.edge.edges_between.Goals as goal

pub returns-clause-lowest : goal.returns-clause-lowest
returns-clause-lowest c = edges_lowest c.args.blanks c.args.before c.requires

pub returns-clause-others : goal.returns-clause-others
returns-clause-others c = edges_others c.args.blanks c.args.before c.requires
