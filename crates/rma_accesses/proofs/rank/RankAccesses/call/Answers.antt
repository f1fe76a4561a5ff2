use Rattle.rma_span.specs.Span.{origin_of}
use Rattle.rma_accesses.proofs.rank.RankAccesses.call.Goals as goal

pub returns : goal.returns
returns c = λ ranks is. c.call.ensures (origin_of ranks c.args.self.now.own.now) is.spans
