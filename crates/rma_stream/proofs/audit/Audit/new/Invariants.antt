use Rattle.std.proofs.Common.{replicate, []}
use Rattle.rma_stream.specs.inside.Feeding.{HaveBooks}
use Rattle.rma_stream.proofs.audit.Audit.new.Given as goal

-- the books so far were fed nothing
abbrev pub invariant-loop-rank : goal.invariant-loop-rank
invariant-loop-rank l = HaveBooks l.ranks l.books.items (replicate l.rank [])
