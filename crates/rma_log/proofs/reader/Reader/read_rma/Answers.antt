use Rattle.std.proofs.Common.{◌∙◌, refl}
use Rattle.std.specs.Option.{option_copied}
use Rattle.rma_form.specs.declared.event.Event.TheVariants.{Rma}
use Rattle.rma_elsewhere.specs.Elsewhere.{IsStatedBy}
use Rattle.rma_judge.proofs.CallLemmas.{OnOk_then}
use Rattle.rma_log.proofs.ReadingLemmas.{Reads_taken, Takes_access, said_words}
use Rattle.rma_log.proofs.reader.Reader.read_rma.Goals as goal

pub returns-in-Good : goal.returns-in-Good
returns-in-Good c =
    OnOk_then c.take.result c.take.ensures
    (λ appends text site.
    let old = c.args.self.now in
    let event = Rma c.args.line.now (option_copied c.args.request) in
    let appended = appends text site in
    Reads_taken old c.take.new.self c.args.no (record { event = event; site = text })
    (Takes_access old c.take.new.self c.access.new.self c.args.no event text _ (option_copied c.args.request) c.in-Good.what c.in-Good.made appended (rw c.in-Good.is at c.in_ok-reason.ensures.judged)
    (λ events h. rw c.in-Good.is at (c.in_ok-reason.ensures.good events h)) refl refl refl refl
    (said_words _ (λ own. IsStatedBy old.lines.version own event) c.args.words c.requires.words))
    (appended.fault ∙ c.requires.fault))
