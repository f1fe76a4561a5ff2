use Rattle.std.proofs.Common.{◌≡◌, ◌⊎◌, List, Option, option_copied, subst}
use Rattle.rma_known.specs.Known.{Known, IsAmong}
use Rattle.rma_known.proofs.SlotLemmas.{among_noted, lasts_is}
use Rattle.rma_known.proofs.known_lines.KnownLines.note.Goals as goal

pub returns : goal.returns
returns c = λ known there.
    let own : Known = record { version = c.args.version; words = c.args.line.now.words; what = c.args.what; request = option_copied c.args.request; lasts = c.args.lasts } in
    let slots = c.self.inside.slots.items in
    let now = c.self.inside.era in
    subst (λ (them : List (Option Known)). (IsAmong them known) ⊎ (known ≡ own)) c.self.view_is
    (among_noted now slots c.slot_of.result own known (rw (c.put.ensures, c.in_ok-known.ensures, c.era_of-era.ensures, c.words.ensures, lasts_is now c.args.lasts) at there))
