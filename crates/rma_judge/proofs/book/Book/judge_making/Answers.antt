use Rattle.std.proofs.Common.{sym, refl, ◌∙◌}
use Rattle.rma_judge.specs.inside.Naming.{making}
use Rattle.rma_judge.proofs.JudgingLemmas.{IsJudged_bad, IsJudged_good}
use Rattle.rma_judge.proofs.RequestLemmas.{changed_made, of_making, taken_requests}
use Rattle.rma_judge.proofs.book.Book.judge_making.Goals as goal

pub returns-in_ok-request-in-None-clause-judged : goal.returns-in_ok-request-in-None-clause-judged
returns-in_ok-request-in-None-clause-judged c = λ event says is.
    let old = c.args.self.now in
    let found = rw (c.later_reason.ensures, c.making_reason.ensures) at c.or.ensures in
    let done = c.in_ok-request-in-None.ensures in
    IsJudged_good old _ event (λ events h. sym c.in-None.is ∙ found ∙ of_making old event c.args.new.now is says events h)
    (taken_requests old _ event (making c.args.new.now) is says refl refl (rw (← c.self.view_is) refl) _ (sym found ∙ c.in-None.is)
    (rw (← c.self.view_is) (changed_made _ _ (making c.args.new.now) refl done.pending done.made done.completed)))

pub returns-in-Some-clause-judged : goal.returns-in-Some-clause-judged
returns-in-Some-clause-judged c = λ event says is.
    let old = c.args.self.now in
    let found = rw (c.later_reason.ensures, c.making_reason.ensures) at c.or.ensures in
    IsJudged_bad old event c.in-Some.reason (λ events h. sym c.in-Some.is ∙ found ∙ of_making old event c.args.new.now is says events h)
