use Rattle.std.proofs.Common.{⊎_elim}
use Rattle.rma_known.specs.Known.{IsAmong}
use Rattle.rma_known.specs.inside.Templates.{IsKnownAmong, known_of}
use Rattle.rma_known.proofs.TemplateLemmas.{among_either, among_lines, none_known_among}
use Rattle.rma_reader.proofs.line_reader.LineReader.forget_accesses.Goals as goal

-- what is known still is known of a line
pub invariant_of-self : goal.invariant_of-self
invariant_of-self c = λ known there.
    c.self.invariant known (⊎_elim
    (λ (own : IsAmong c.forget_accesses.new.self known). among_lines c.self.inside.lines (known_of c.self.inside.templates) known (c.forget_accesses.ensures.among known own))
    (λ (other : IsKnownAmong c.forget.new.self known). absurd (none_known_among c.forget.new.self known c.forget.ensures other))
    (among_either c.forget_accesses.new.self (known_of c.forget.new.self) known there))

pub returns-clause-among : goal.returns-clause-among
returns-clause-among c =
    rw (← c.self.view_is) (λ known there.
    ⊎_elim
    (λ (own : IsAmong c.forget_accesses.new.self known). among_lines c.self.inside.lines (known_of c.self.inside.templates) known (c.forget_accesses.ensures.among known own))
    (λ (other : IsKnownAmong c.forget.new.self known). absurd (none_known_among c.forget.new.self known c.forget.ensures other))
    (among_either c.forget_accesses.new.self (known_of c.forget.new.self) known there))

pub returns-clause-lasting : goal.returns-clause-lasting
returns-clause-lasting c = λ known there.
    ⊎_elim
    (λ (own : IsAmong c.forget_accesses.new.self known). c.forget_accesses.ensures.lasting known own)
    (λ (other : IsKnownAmong c.forget.new.self known). absurd (none_known_among c.forget.new.self known c.forget.ensures other))
    (among_either c.forget_accesses.new.self (known_of c.forget.new.self) known there)
