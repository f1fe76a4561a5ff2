use Rattle.std.proofs.Common.{◌+◌, ap, sym, ◌∙◌, subst}
use Rattle.rma_lex.specs.Checked.{checked_lines}
use Rattle.rma_lex.specs.Cutting.{Cutting}
use Rattle.rma_book.specs.inside.RankState.{Represents}
use Rattle.rma_lex.proofs.CheckLemmas.{length_checked_lines}
use Rattle.rma_log.proofs.ReadingLemmas.{IsReading_closed, IsReading_all}
use Rattle.rma_book.proofs.rank_book.RankBook.end.Goals as goal

pub returns-clause-end : goal.returns-clause-end
returns-clause-end c = λ rank logs bytes h.
    let inside = c.self.inside in
    let held = subst (λ reading. Represents rank logs reading bytes) (sym c.self.view_is) h in
    let closed = IsReading_closed rank logs inside.cutter c.close.new.self bytes inside.reader (ap (λ (cutting : Cutting). cutting.handed) c.close.ensures.closed)
    (c.close.ensures.text bytes held.fed) (record { represents = held.fed; read = held.read }) in
    let read = c.in_ok-read_lines.ensures.read rank logs bytes closed in
    let all = c.in_ok-read_lines.ensures.all bytes read.represents (c.in_ok-read_lines.ensures.closed ∙ ap (λ (cutting : Cutting). cutting.closed) c.close.ensures.closed) in
    let behind = ap (λ n. n + 1) (c.lines.ensures.text bytes read.represents ∙ sym (length_checked_lines bytes)) in
    c.end.ensures rank logs (checked_lines bytes) behind (IsReading_all rank logs c.read_lines.new.cutter bytes c.read_lines.new.reader all read)
