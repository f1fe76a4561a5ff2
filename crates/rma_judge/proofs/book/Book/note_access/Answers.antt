use Rattle.std.proofs.Common.{refl}
use Rattle.std.specs.Option.{option_copied}
use Rattle.rma_form.specs.declared.event.Event.TheVariants.{Rma}
use Rattle.rma_judge.proofs.CallLemmas.{OnOk_then}
use Rattle.rma_judge.proofs.book.Book.note_access.Goals as goal

pub returns-in-Some-clause-taken : goal.returns-in-Some-clause-taken
returns-in-Some-clause-taken c =
    OnOk_then c.note.result c.note.ensures.taken (λ taken. taken (Rma c.args.line.now (option_copied c.args.request)) c.with_access.ensures refl refl)
