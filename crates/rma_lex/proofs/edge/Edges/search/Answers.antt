use Rattle.std.proofs.Common.{arith}
use Rattle.rma_lex.proofs.EdgeLemmas.{Reaches_search}
use Rattle.rma_lex.proofs.edge.Edges.search.Goals as goal

pub returns-clause-reaches : goal.returns-clause-reaches
returns-clause-reaches c =
    Reaches_search c.args.self.now c.requires.reaches _ _ c.requires.none_left c.requires.more (omega arith) (omega arith) (omega arith) c.edges_of_block-self.ensures
