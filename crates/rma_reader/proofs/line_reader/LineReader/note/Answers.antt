use Rattle.std.proofs.Common.{◌≡◌, ◌<◌, length, ⊎_elim, inl, inr, sym, subst, option_copied}
use Rattle.rma_known.specs.Known.{Known, IsAmong}
use Rattle.rma_known.specs.inside.Templates.{known_of}
use Rattle.rma_known.proofs.TemplateLemmas.{among_either, among_lines, among_others}
use Rattle.rma_reader.specs.Reading.{Reading}
use Rattle.rma_reader.proofs.line_reader.LineReader.note.Goals as goal

pub invariant_of-self : goal.invariant_of-self
invariant_of-self c = λ known there.
    let lines = c.self.inside.lines in
    let others = known_of c.self.inside.templates in
    ⊎_elim
    (λ (own : IsAmong c.note.new.self known).
    ⊎_elim
    (λ (old : IsAmong lines known). c.self.invariant known (among_lines lines others known old))
    (λ (same : known ≡ record { version = c.self.inside.version; words = c.args.line.now.words; what = c.args.what; request = option_copied c.args.request; lasts = c.args.lasts }).
    let within : c.args.what < length c.self.inside.calls.whats = subst (λ (reading : Reading). c.args.what < length reading.calls.whats) (sym c.self.view_is) c.requires in
    subst (λ (k : Known). k.what < length c.self.inside.calls.whats) (sym same) within)
    (c.note.ensures known own))
    (λ (other : IsAmong others known). c.self.invariant known (among_others lines others known other))
    (among_either c.note.new.self others known there)

pub returns-clause-known : goal.returns-clause-known
returns-clause-known c =
    let lines = c.self.inside.lines in
    let others = known_of c.self.inside.templates in
    rw (← c.self.view_is) (λ known there.
    ⊎_elim
    (λ (own : IsAmong c.note.new.self known).
    ⊎_elim
    (λ (old : IsAmong lines known). inl (among_lines lines others known old))
    (λ (same : known ≡ record { version = c.self.inside.version; words = c.args.line.now.words; what = c.args.what; request = option_copied c.args.request; lasts = c.args.lasts }). inr same)
    (c.note.ensures known own))
    (λ (other : IsAmong others known). inl (among_others lines others known other))
    (among_either c.note.new.self others known there))
