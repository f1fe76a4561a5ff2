use Rattle.std.proofs.Common.{◌≡◌, ◌+◌, ◌++◌, false, length, take, take-append-drop, ap, sym, ◌∙◌, subst}
use Rattle.rma_lex.specs.Checked.{checked_lines}
use Rattle.rma_lex.specs.Cutting.{Cutting}
use Rattle.rma_book.specs.inside.RankState.{RankState}
use Rattle.rma_log.specs.inside.Reading.{HasRead, IsReading}
use Rattle.rma_log.proofs.ReadingLemmas.{IsReading_fed}
use Rattle.rma_book.proofs.WholeLemmas.{whole_handed}
use Rattle.rma_book.proofs.rank_book.RankBook.read_part.Goals as goal

pub returns-clause-read : goal.returns-clause-read
returns-clause-read c =
    let inside = c.self.inside in
    let part = c.split_at.result.0.now in
    let fed = c.in_ok-feed.ensures in
    let same = ap (λ (cutting : Cutting). cutting.handed) c.shorten.ensures.same in
    let unclosed : inside.cutter.closed ≡ false = ap (λ (state : RankState). state.text.closed) c.self.view_is ∙ c.requires.goes_on in
    let goes_on = c.in_ok-read_lines.ensures.closed ∙ ap (λ (cutting : Cutting). cutting.closed) fed.ok ∙ unclosed in (
      part,
      rw (c.split_at.ensures.front, c.split_at.ensures.back) (sym (take-append-drop c.min.result c.args.piece.now)),
      record {
        fed = ap (λ (cutting : Cutting). cutting.fed) c.shorten.ensures.same ∙ c.in_ok-read_lines.ensures.fed ∙ ap (λ (cutting : Cutting). cutting.fed) fed.ok
            ∙ ap (λ (state : RankState). state.text.fed + length part) c.self.view_is;
        reads = λ rank logs bytes h.
            let held = subst (λ (state : RankState). IsReading rank logs state.text bytes state.reader) (sym c.self.view_is) h in
            let start = subst (IsReading rank logs c.feed.new.self (bytes ++ part)) (sym c.prefetch.ensures)
            (IsReading_fed rank logs inside.cutter c.feed.new.self bytes part inside.reader unclosed (ap (λ (cutting : Cutting). cutting.handed) fed.ok) (fed.text bytes held.represents) held) in
            let read = c.in_ok-read_lines.ensures.read rank logs (bytes ++ part) start in (
              record {
                represents = c.shorten.ensures.text (bytes ++ part) read.represents;
                read = subst (λ n. HasRead rank logs (take n (checked_lines (bytes ++ part))) c.read_lines.new.reader) (sym same) read.read;
              },
              same ∙ whole_handed c.read_lines.new.cutter (bytes ++ part) read.represents goes_on c.in_ok-read_lines.ensures.none_left,
            );
      },
    )
