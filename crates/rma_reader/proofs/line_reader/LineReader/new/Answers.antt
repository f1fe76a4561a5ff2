use Rattle.std.proofs.Common.{⊎_elim}
use Rattle.rma_known.specs.Known.{IsAmong}
use Rattle.rma_known.specs.inside.Templates.{IsKnownAmong, known_of}
use Rattle.rma_known.proofs.TemplateLemmas.{among_either, none_known_among}
use Rattle.rma_reader.proofs.line_reader.LineReader.new.Goals as goal

pub invariant_of-result : goal.invariant_of-result
invariant_of-result c = λ known there.
    absurd (⊎_elim
    (λ (own : IsAmong c.in_ok-new.field-0 known). c.in_ok-new.ensures known own)
    (λ (other : IsKnownAmong c.in_ok-new-2.field-0 known). none_known_among c.in_ok-new-2.field-0 known c.in_ok-new-2.ensures other)
    (among_either c.in_ok-new.field-0 (known_of c.in_ok-new-2.field-0) known there))

pub returns-clause-known : goal.returns-clause-known
returns-clause-known c = λ known there.
    ⊎_elim
    (λ (own : IsAmong c.in_ok-new.field-0 known). c.in_ok-new.ensures known own)
    (λ (other : IsKnownAmong c.in_ok-new-2.field-0 known). none_known_among c.in_ok-new-2.field-0 known c.in_ok-new-2.ensures other)
    (among_either c.in_ok-new.field-0 (known_of c.in_ok-new-2.field-0) known there)
