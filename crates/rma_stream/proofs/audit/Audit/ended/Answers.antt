use Rattle.std.proofs.Common.{List, length, sym, ◌∙◌, subst}
use Rattle.rma_book.specs.inside.RankState.{RankState}
use Rattle.rma_accesses.specs.Run.{AreGood}
use Rattle.rma_stream.specs.inside.Feeding.{HaveBooks}
use Rattle.rma_stream.proofs.RunLemmas.{are_good}
use Rattle.rma_stream.proofs.audit.Audit.ended.Goals as goal

pub of-requires-2 : goal.of-requires-2
of-requires-2 c = λ none.
    let books = c.self.inside.books in
    let kept = c.self.invariant.represent c.if-self.false in
    let texts = kept.0 in
    let held = subst (λ n. HaveBooks n books.items texts) kept.1.one_a_text kept.1 in
    let few = c.count_lines-lines.ensures.few (length texts) texts (subst (λ (bs : List RankState). HaveBooks (length texts) bs texts) (sym c.deref.ensures.value) held) in
    let ends = c.in_ok-outcomes.ensures texts held in
    subst AreGood (sym ends.2.calls_are) (are_good texts ends.0 ends.1 (sym ends.2.bad_are ∙ none) few)

pub returns-clause-findings : goal.returns-clause-findings
returns-clause-findings c = λ texts h.
    let logs = length texts in
    let books = c.self.inside.books in
    let held = subst (λ (bs : List RankState). HaveBooks logs bs texts) (sym c.self.view_is) h in
    let ends = c.in_ok-outcomes.ensures texts held in record {
      ranks = c.len-ranks.ensures ∙ books.ok.0 ∙ held.one_a_text;
      lines = c.count_lines-lines.ensures.lines logs texts (subst (λ (bs : List RankState). HaveBooks logs bs texts) (sym c.deref.ensures.value) held);
      ends = ends.0;
      ends_are = ends.1;
      verdict = c.in_ok-verdict.ensures ends.0 (c.in_ok-of.ensures.run ends.0 ends.2);
    }
