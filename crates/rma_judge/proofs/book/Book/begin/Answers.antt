use Rattle.std.proofs.Common.{sym, ◌∙◌, refl}
use Rattle.rma_form.specs.declared.event.Event.TheVariants.{Header}
use Rattle.rma_judge.proofs.StateLemmas.{or_false}
use Rattle.rma_judge.proofs.JudgingLemmas.{IsJudged_good, IsTaken_plain, of_header}
use Rattle.rma_judge.proofs.book.Book.begin.Goals as goal

pub returns-in-None : goal.returns-in-None
returns-in-None c = λ version.
    let old = c.args.self.now in
    let event = Header version c.args.rank c.args.size in
    IsJudged_good old _ event (λ events h. sym c.in-None.is ∙ c.header_reason.ensures ∙ sym (of_header old.rank old.logs old events version c.args.rank c.args.size h))
    (rw (← c.self.view_is) (IsTaken_plain _ _ event refl refl refl (sym (or_false c.self.inside.ended))))
