use Rattle.std.proofs.Common.{arith}
use Rattle.std.proofs.lemmas.Bool.{eqb-false}
use Rattle.rma_lex.proofs.FeedLemmas.{some_feed}
use Rattle.rma_lex.proofs.line_feed.LineFeeds.has_none.Goals as goal

pub returns-then-self-ne0-clause-some : goal.returns-then-self-ne0-clause-some
returns-then-self-ne0-clause-some c _ = some_feed c.args.self.now c.args.text.now c.requires (λ e. omega arith) (omega arith)

pub returns-clause-some : goal.returns-clause-some
returns-clause-some c some none =
    some_feed c.search.new.self c.args.text.now c.search.ensures.knows (eqb-false c.search.new.self.mask 0 some) (omega arith) (rw c.search.ensures.start none)
