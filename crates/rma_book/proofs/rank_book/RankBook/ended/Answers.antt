use Rattle.std.proofs.Common.{is_some, ap, ◌∙◌}
use Rattle.rma_log.specs.Logs.{whole_lines}
use Rattle.rma_book.specs.inside.RankState.{RankState}
use Rattle.rma_log.proofs.ReadingLemmas.{HasGood_read}
use Rattle.rma_book.proofs.WholeLemmas.{whole_read}
use Rattle.rma_book.proofs.rank_book.RankBook.ended.Goals as goal

pub returns : goal.returns
returns c = λ rank logs bytes h.
    let state = c.args.self.now in
    let good = HasGood_read rank logs (whole_lines bytes) state.reader (whole_read rank logs state bytes h) in
    (good.count, good.until, c.is_some.ensures ∙ ap (λ (s : RankState). is_some s.reader.end) c.self.view_is ∙ ap is_some good.end)
