use Rattle.std.proofs.Common.{◌∙◌}
use Rattle.rma_known.specs.inside.Templates.{known_of}
use Rattle.rma_known.proofs.TemplateLemmas.{among_lines}
use Rattle.rma_reader.proofs.line_reader.LineReader.known.Goals as goal

pub returns-in_default-request-clause-err : goal.returns-in_default-request-clause-err
returns-in_default-request-clause-err c =
    rw (← c.self.view_is) (
      c.in-Some.known.now.known,
      record {
        among = among_lines c.self.inside.lines (known_of c.self.inside.templates) c.in-Some.known.now.known c.in-Some.ensures.among;
        version = c.in-Some.ensures.version;
        words = c.in-Some.ensures.words ∙ c.words.ensures;
        split = c.site-text.ensures.split;
      },
      tt,
    )

pub invariant_of-self : goal.invariant_of-self
invariant_of-self c = λ known there. rw c.site_at.ensures.adds.whats (c.self.invariant known there)

pub invariant_of-self-2 : goal.invariant_of-self-2
invariant_of-self-2 c = λ known there. rw c.site_at.ensures.adds.whats (c.self.invariant known there)

pub returns-clause-within : goal.returns-clause-within
returns-clause-within c =
    rw (c.site_at.ensures.adds.whats, c.what-what.ensures)
    (c.self.invariant c.in-Some.known.now.known (among_lines c.self.inside.lines (known_of c.self.inside.templates) c.in-Some.known.now.known c.in-Some.ensures.among))
