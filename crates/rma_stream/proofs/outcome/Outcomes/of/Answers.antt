use Rattle.std.proofs.Common.{◌≡◌, ◌+◌, ◌<◌, ◌++◌, ◌∷◌, [], List, length, take, get_or, subst, sym, ap, ◌∙◌, arith, length-append, append_assoc}
use Rattle.std.proofs.lemmas.List.{take_more, length-take}
use Rattle.std.specs.Vec.Iter.{into_iter_items}
use Rattle.rma_lex.specs.Checked.{checked_lines}
use Rattle.rma_book.specs.inside.RankState.{RankState, Represents}
use Rattle.rma_log.specs.Ends.{IsEnd}
use Rattle.rma_stream.specs.Findings.{AreEnds}
use Rattle.rma_stream.proofs.BookLemmas.{book_at}
use Rattle.rma_stream.proofs.OutcomeLemmas.{AreEnds_push, length_AreEnds}
use Rattle.rma_stream.proofs.outcome.Outcomes.of.Goals as goal

pub loop-book-preserved : goal.loop-book-preserved
loop-book-preserved c =
    let books = c.args.books.items in
    let yielded = c.loop-book.yielded in
    let rank = c.loop-book.rank in
    let book = c.in-Some.book in
    let left = into_iter_items c.next.new.self in
    let split : books ≡ yielded ++ book ∷ left = c.loop-book.invariant.2 ∙ ap (λ (bs : List RankState). yielded ++ bs) c.in-Some.ensures.steps.0 in
    let few = c.loop-book.invariant.4 in
    let counted : rank ≡ length yielded = c.loop-book.invariant.3 in (
      tt,
      tt,
      split ∙ sym (append_assoc yielded (book ∷ []) left),
      omega (arith, counted, length-append yielded (book ∷ [])),
      few,
      λ texts h.
          let logs = length texts in
          let so_far = c.loop-book.invariant.5 texts h in
          let text = get_or texts rank [] in
          let end = c.in_ok-end.field-0 in
          let below : rank < length books = omega (arith, counted, ap (λ (bs : List RankState). length bs) split, length-append yielded (book ∷ left)) in
          let there : rank < length texts = omega (arith, below, h.one_a_text) in
          let own : get_or books rank book ≡ book = ap (λ (bs : List RankState). get_or bs rank book) split ∙ ap (λ n. get_or (yielded ++ book ∷ left) n book) counted ∙ book_at yielded book left book in
          let held : Represents rank logs book text = subst (λ b. Represents rank logs b text) own (h.each rank book below) in
          let came : IsEnd rank logs (checked_lines text) end = c.in_ok-end.ensures.end rank logs text held in
          let place : rank ≡ 0 + length (take rank texts) = simp length-take (omega (arith, there)) in
          let pushed = AreEnds_push logs 0 (take rank texts) so_far.0 text end so_far.1 (subst (λ n. IsEnd n logs (checked_lines text) end) place came) in
          let put = c.in_ok-push.ensures so_far.0 (place ∙ omega (arith, length_AreEnds logs 0 (take rank texts) so_far.0 so_far.1)) so_far.2 in
          (so_far.0 ++ end ∷ [], subst (λ ts. AreEnds logs 0 ts (so_far.0 ++ end ∷ [])) (sym (take_more texts rank [] there)) pushed, put),
    )
