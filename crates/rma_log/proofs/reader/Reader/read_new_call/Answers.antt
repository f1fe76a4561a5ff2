use Rattle.std.proofs.Common.{refl, subst}
use Rattle.std.specs.Option.{option_copied}
use Rattle.rma_call.specs.declared.what.What.TheVariants.{Sync}
use Rattle.rma_form.specs.declared.event.Event.TheVariants.{Call}
use Rattle.rma_log.specs.declared.reader.Reader.{Reader}
use Rattle.rma_elsewhere.specs.Elsewhere.{IsStatedBy}
use Rattle.rma_log.specs.inside.Reading.{Reads}
use Rattle.rma_judge.proofs.CallLemmas.{OnOk_then}
use Rattle.rma_log.proofs.ReadingLemmas.{Reads_before, said_words, site_kept}
use Rattle.rma_log.proofs.reader.Reader.read_new_call.Goals as goal

pub returns : goal.returns
returns c =
    OnOk_then c.read_call.result c.read_call.ensures
    (λ reads text site.
    let old = c.args.self.now in
    let added = c.add_placed.new.self in
    let event = Call c.args.call (option_copied c.args.request) in
    let adds = c.in_ok-what.ensures.adds in
    Reads_before old c.read_call.new.self added.lines c.args.no (record { event = event; site = text }) adds.version adds.calls
    (λ types are.
    adds.known types event are (said_words _ (λ own. IsStatedBy old.lines.version own event) c.args.words c.requires.words)
    (record { does = refl; request = refl; good = refl }) (λ lasts. (c.args.call, refl)))
    (subst (λ (r : Reader). Reads r c.read_call.new.self c.args.no (record { event = event; site = text })) adds.same
    (reads (Sync c.args.call) event text c.in_ok-what.ensures.number (record { does = refl; request = refl; good = refl })
    (site_kept old.lines.calls added.lines.calls adds.sites c.args.site text site))))
