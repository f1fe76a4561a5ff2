use Rattle.std.proofs.Common.{sym, refl, ◌∙◌}
use Rattle.rma_judge.specs.inside.Naming.{waiting}
use Rattle.rma_judge.proofs.JudgingLemmas.{IsJudged_bad, IsJudged_good}
use Rattle.rma_judge.proofs.RequestLemmas.{changed_waiting, of_waiting, taken_requests}
use Rattle.rma_judge.proofs.book.Book.judge_waiting.Goals as goal

pub returns-in_ok-request-in-None-clause-judged : goal.returns-in_ok-request-in-None-clause-judged
returns-in_ok-request-in-None-clause-judged c = λ event says is.
    let old = c.args.self.now in
    let found = rw (c.later_reason.ensures, c.waiting_reason.ensures) at c.or.ensures in
    let done = c.in_ok-request-in-None.ensures in
    IsJudged_good old _ event (λ events h. sym c.in-None.is ∙ found ∙ of_waiting old event c.args.request.now c.args.from is says events h)
    (taken_requests old _ event (waiting c.args.request.now c.args.from) is says refl refl (rw (← c.self.view_is) refl) _ (sym found ∙ c.in-None.is)
    (rw (← c.self.view_is) (changed_waiting _ _ c.args.request.now c.args.from done.pending done.made done.completed)))

pub returns-in-Some-clause-judged : goal.returns-in-Some-clause-judged
returns-in-Some-clause-judged c = λ event says is.
    let old = c.args.self.now in
    let found = rw (c.later_reason.ensures, c.waiting_reason.ensures) at c.or.ensures in
    IsJudged_bad old event c.in-Some.reason (λ events h. sym c.in-Some.is ∙ found ∙ of_waiting old event c.args.request.now c.args.from is says events h)
