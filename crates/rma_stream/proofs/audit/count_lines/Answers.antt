use Rattle.std.proofs.Common.{◌≡◌, ◌+◌, ◌<◌, ◌≤◌, [], below_more, take, length, get_or, ap, sym, ◌∙◌, subst, arith}
use Rattle.std.proofs.lemmas.List.{take_all}
use Rattle.std.proofs.lemmas.List.Sums.{sum_by_more}
use Rattle.rma_base.specs.Limits.{fed_limit}
use Rattle.rma_lex.specs.Line.{lines}
use Rattle.rma_book.specs.inside.RankState.{Represents}
use Rattle.rma_stream.specs.Findings.{count_of_lines}
use Rattle.rma_stream.proofs.audit.count_lines.Goals as goal

pub loop-book-preserved : goal.loop-book-preserved
loop-book-preserved c =
    let i = c.loop-book.book-index in (
      λ ranks texts h.
          let text = get_or texts i [] in
          let there : i < length texts = omega (arith, h.one_a_text, c.loop-book-test.true) in
          let own : c.lines.result ≡ length (lines text) = c.lines.ensures.text i ranks text (subst (λ r. Represents i ranks r text) (sym c.book-item.is) (h.each i c.book-item.result c.loop-book-test.true)) in
          let so_far = c.loop-book.invariant.0 ranks texts h in
          let sums : count_of_lines (take (i + 1) texts) ≡ count_of_lines (take i texts) + length (lines text) = sum_by_more (λ log. length (lines log)) texts i [] there in
          omega (arith, so_far, sums, own, c.from-lines.ensures),
      omega (arith, c.loop-book.invariant.1, c.lines.ensures.bound, c.from-lines.ensures),
      λ ranks texts h.
          let own = c.lines.ensures.text i ranks (get_or texts i []) (subst (λ r. Represents i ranks r (get_or texts i [])) (sym c.book-item.is) (h.each i c.book-item.result c.loop-book-test.true)) in
          below_more (λ k. length (lines (get_or texts k [])) ≤ fed_limit) i (c.loop-book.invariant.2 ranks texts h) (omega (arith, own, c.lines.ensures.bound)),
    )

pub returns-clause-lines : goal.returns-clause-lines
returns-clause-lines c = λ ranks texts h.
    c.loop-book.invariant.0 ranks texts h
    ∙ ap count_of_lines (take_all c.loop-book.book-index texts (omega (arith, h.one_a_text, c.loop-book-test.false)))

pub returns-clause-few : goal.returns-clause-few
returns-clause-few c = λ ranks texts h k there. c.loop-book.invariant.2 ranks texts h k (omega (arith, h.one_a_text, c.loop-book-test.false))
