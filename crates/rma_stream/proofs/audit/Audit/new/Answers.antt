use Rattle.std.proofs.Common.{List, ℕ, [], replicate, subst, sym, ◌∙◌}
use Rattle.std.proofs.lemmas.List.{replicate_more, length-replicate}
use Rattle.rma_book.specs.inside.RankState.{Represents}
use Rattle.rma_stream.proofs.BookLemmas.{HaveBooks_push}
use Rattle.rma_stream.proofs.audit.Audit.new.Goals as goal

pub loop-rank-preserved : goal.loop-rank-preserved
loop-rank-preserved c =
    let ranks = c.args.ranks in
    let so_far = c.loop-rank.invariant in
    let book = c.in_ok-sharing.field-0 in
    let next = subst (λ n. Represents n ranks book []) (sym (so_far.one_a_text ∙ length-replicate c.loop-rank.rank [])) c.in_ok-sharing.ensures in
    rw (c.in_ok-push.ensures.items, ← replicate_more {X = List ℕ} c.loop-rank.rank [])
    (HaveBooks_push ranks c.loop-rank.books.items (replicate c.loop-rank.rank []) book [] so_far next)
