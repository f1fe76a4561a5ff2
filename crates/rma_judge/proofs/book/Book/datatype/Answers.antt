use Rattle.std.proofs.Common.{◌≡◌, Option, None, Result, Ok, Err, IfOk, ap, sym, ◌∙◌}
use Rattle.rma_base.specs.declared.form_reason.FormReason.{FormReason}
use Rattle.rma_base.specs.declared.memory.Memory.{Memory}
use Rattle.rma_form.specs.declared.event.Event.TheVariants.{Datatype}
use Rattle.rma_form.specs.declared.event.type_line.TypeLine.{TypeLine}
use Rattle.rma_type.specs.Table.{Table}
use Rattle.rma_judge.specs.inside.BookState.{BookState, IsChanged, IsJudged}
use Rattle.rma_judge.proofs.AccessLemmas.{datatype_judged}
use Rattle.rma_judge.proofs.JudgingLemmas.{later}
use Rattle.rma_judge.proofs.book.Book.datatype.Goals as goal

judged : (book : BookState) (types : Table) (line : TypeLine) (result : Result (Option FormReason) Memory) → later book ≡ None → IfOk result (IsChanged book.types types line)
    → IfOk result (IsJudged book (record book { types = types }) (Datatype line))
judged book types line (Ok reason) stand changed = datatype_judged book types line reason stand changed
judged book types line (Err error) stand changed = tt

pub returns-in-None : goal.returns-in-None
returns-in-None c = rw (← c.self.view_is) (judged _ c.change.new.table c.args.line c.change.result (ap later c.self.view_is ∙ sym c.later_reason.ensures ∙ c.in-None.is) c.change.ensures)
