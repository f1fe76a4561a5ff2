use Rattle.std.proofs.Common.{Result, Err, subst, sym, ◌∙◌, refl}
use Rattle.std.specs.Result.{OnOk}
use Rattle.rma_lex.specs.Content.{content, number}
use Rattle.rma_lex.specs.declared.cutter.Line.{Line}
use Rattle.rma_lex.specs.declared.cutter.LexFault.{LexFault}
use Rattle.rma_log.specs.inside.Reading.{ReadsNext}
use Rattle.rma_log.proofs.ReadingLemmas.{HasRead_bad, HasRead_refused, HasTaken_read, none_from}
use Rattle.rma_log.proofs.reader.Reader.read.Goals as goal

pub returns-then-is_some : goal.returns-then-is_some
returns-then-is_some c = λ rank logs before number h. HasRead_bad rank logs before (content c.args.found) c.args.self.now h (sym c.is_some.ensures ∙ c.if-is_some.true)

pub returns-in-Ok : goal.returns-in-Ok
returns-in-Ok c =
    subst (λ (found : Result Line LexFault). OnOk c.read_text.result (ReadsNext c.args.self.now c.read_text.new.self (number found) (content found))) (sym c.in-Ok.is) c.read_text.ensures

pub returns-in-Err : goal.returns-in-Err
returns-in-Err c =
    let old = c.args.self.now in
    let none = none_from old.fault (sym c.is_some.ensures ∙ c.if-is_some.false) in
    subst (λ (found : Result Line LexFault). ReadsNext old c.refuse.new.self (number found) (content found)) (sym c.in-Err.is)
    (λ rank logs before at h.
    HasRead_refused rank logs before (Err c.in-Err.fault.reason) old c.refuse.new.self (record { line = c.in-Err.fault.no; reason = c.in-Err.fault.reason })
    (HasTaken_read rank logs before old h none) refl at c.refuse.ensures)
