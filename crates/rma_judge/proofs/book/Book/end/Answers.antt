use Rattle.std.proofs.Common.{sym, ◌∙◌, refl}
use Rattle.rma_form.specs.declared.event.Event.TheVariants.{End}
use Rattle.rma_judge.proofs.StateLemmas.{or_true}
use Rattle.rma_judge.proofs.JudgingLemmas.{IsJudged_bad, IsJudged_good, IsTaken_plain, of_end}
use Rattle.rma_judge.proofs.book.Book.end.Goals as goal

pub returns-in-Some : goal.returns-in-Some
returns-in-Some c =
    let old = c.args.self.now in
    IsJudged_bad old End c.in-Some.reason (λ events h. sym c.in-Some.is ∙ c.end_reason.ensures ∙ sym (of_end old.rank old.logs old events h))

pub returns-in-None : goal.returns-in-None
returns-in-None c =
    let old = c.args.self.now in
    IsJudged_good old _ End (λ events h. sym c.in-None.is ∙ c.end_reason.ensures ∙ sym (of_end old.rank old.logs old events h))
    (rw (← c.self.view_is) (IsTaken_plain _ _ End refl refl refl (sym (or_true c.self.inside.ended))))
