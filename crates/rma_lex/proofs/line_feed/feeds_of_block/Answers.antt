use Rattle.std.proofs.Common.{◌+◌, eqb, sym, subst, arith, w8}
use Rattle.std.specs.Simd.Lanes.{chunk}
use Rattle.std.proofs.lemmas.Simd.{length-chunk, bitmask_splat}
use Rattle.rma_lex.specs.inside.LineFeed.{MarksFeeds}
use Rattle.rma_lex.proofs.MarkLemmas.{Marks_lanes}
use Rattle.rma_lex.proofs.FeedLemmas.{MarksFeeds_from}
use Rattle.rma_lex.proofs.line_feed.feeds_of_block.Goals as goal

pub returns : goal.returns
returns c =
    let text = c.args.text.now in
    let from = c.args.from in
    subst (MarksFeeds text from (from + 64)) (sym (bitmask_splat w8 eqb (chunk from 64 text) 64 10 (length-chunk from 64 text c.requires) (omega arith)))
    (MarksFeeds_from text from (from + 64) _ (Marks_lanes (λ x. eqb x 10) 0 text from 64 c.requires))
