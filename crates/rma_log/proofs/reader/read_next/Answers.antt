use Rattle.std.proofs.Common.{◌+◌, take, sym, ap, ◌∙◌}
use Rattle.rma_lex.specs.Checked.{checked_lines}
use Rattle.rma_lex.specs.Cutting.{Cutting}
use Rattle.rma_lex.specs.Content.{content}
use Rattle.rma_log.proofs.ReadingLemmas.{IsReading_more, lines_before}
use Rattle.rma_log.proofs.reader.read_next.Goals as goal

pub returns-in_ok-read-in-Some-clause-read : goal.returns-in_ok-read-in-Some-clause-read
returns-in_ok-read-in-Some-clause-read c = λ rank logs text h.
    let before = c.args.cutter.now in
    let lines = checked_lines text in
    let line = content c.in-Some.found in
    let out = c.next_line.follows.holds-at-none in
    let taken = rw c.in-Some.is at out.line in
    let found = c.in-Some.ensures.text text h.represents in
    let number = c.in-Some.ensures.number ∙ ap (λ n. n + 1) (sym (lines_before before.handed lines line found)) in
    IsReading_more rank logs before c.next_line.follows.lender-at-none text line c.read.new.self (out.text text h.represents) found
    (ap (λ (cutting : Cutting). cutting.handed) taken.takes.1) (c.in_ok-read-in-Some.ensures rank logs (take before.handed lines) number h.read)
