use Rattle.rma_lex.proofs.EdgeLemmas.{IsNextEdge_lowest, Reaches_next}
use Rattle.rma_lex.proofs.edge.Edges.go_on.Goals as goal

pub returns-clause-next : goal.returns-clause-next
returns-clause-next c =
    let low = c.lowest.result in
    rw (← c.look_ahead.ensures.line, ← c.look_ahead.ensures.place)
    (IsNextEdge_lowest c.look_ahead.new.self c.look_ahead.ensures.reaches low _ c.lowest.ensures.bound c.lowest.ensures.lowest (c.without_lowest-self.ensures low c.lowest.ensures.lowest))

pub returns-clause-reaches : goal.returns-clause-reaches
returns-clause-reaches c =
    let low = c.lowest.result in
    Reaches_next c.look_ahead.new.self c.look_ahead.ensures.reaches low _ c.lowest.ensures.bound c.lowest.ensures.lowest (c.without_lowest-self.ensures low c.lowest.ensures.lowest)
