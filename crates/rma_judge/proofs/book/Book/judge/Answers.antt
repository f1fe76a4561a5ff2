use Rattle.std.proofs.Common.{sym, ◌∙◌}
use Rattle.rma_judge.specs.inside.Naming.{value_of}
use Rattle.rma_judge.proofs.JudgingLemmas.{IsJudged_bad, IsJudged_good, of_call}
use Rattle.rma_judge.proofs.book.Book.judge.Goals as goal

pub returns-in_ok-request-in-None-clause-judged : goal.returns-in_ok-request-in-None-clause-judged
returns-in_ok-request-in-None-clause-judged c = λ event says is.
    let old = c.args.self.now in
    IsJudged_good old _ event
    (λ events h. sym c.in-None.is ∙ c.reason.ensures events h ∙ of_call old.rank old.logs old events event (value_of c.args.naming.now) h is says)
    (c.in_ok-request-in-None.ensures.taken event says is.goes_on is.other)

pub returns-in-Some-clause-judged : goal.returns-in-Some-clause-judged
returns-in-Some-clause-judged c = λ event says is.
    let old = c.args.self.now in
    IsJudged_bad old event c.in-Some.reason
    (λ events h. sym c.in-Some.is ∙ c.reason.ensures events h ∙ of_call old.rank old.logs old events event (value_of c.args.naming.now) h is says)
