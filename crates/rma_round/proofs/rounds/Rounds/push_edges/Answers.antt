use Rattle.std.proofs.Common.{◌++◌, sym, ap, ◌∙◌, append-nil}
use Rattle.rma_round.proofs.EdgeLemmas.{no_edges}
use Rattle.rma_round.proofs.rounds.Rounds.push_edges.Goals as goal

pub returns-then-is_empty-clause-edges : goal.returns-then-is_empty-clause-edges
returns-then-is_empty-clause-edges c =
    sym (append-nil c.args.links.now.edges)
    ∙ ap (λ l. c.args.links.now.edges ++ l) (no_edges c.args.ranks.now c.args.self.now.movings c.requires.represents.movings_are (c.is_empty.ensures c.if-is_empty.true))
