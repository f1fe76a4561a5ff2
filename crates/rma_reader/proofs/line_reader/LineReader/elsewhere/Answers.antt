use Rattle.rma_known.proofs.TemplateLemmas.{made_known, made_within}
use Rattle.rma_reader.proofs.line_reader.LineReader.elsewhere.Goals as goal

pub returns-clause-known : goal.returns-clause-known
returns-clause-known c =
    let own = c.self.inside in
    rw (← c.self.view_is) (made_known own.lines own.templates own.version c.args.line.now.words c.find.new.to c.find.result (rw c.words.ensures at c.find.ensures))

pub returns-clause-within : goal.returns-clause-within
returns-clause-within c =
    let own = c.self.inside in
    rw (← c.self.view_is) (made_within own.lines own.templates own.version c.words.result.now c.find.new.to _ c.find.result c.self.invariant c.find.ensures)
