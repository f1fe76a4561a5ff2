use Rattle.std.proofs.Common.{[], arith}
use Rattle.rma_rows.proofs.logs.end_of.Goals as goal

pub returns : goal.returns
returns c =
    let text = c.as_bytes.result.now in (
      text,
      (let fits = c.if-log-fed.false in let same = c.as_bytes.ensures.len in let most = c.fed.ensures.limit in omega (arith, fits, same, most)),
      c.in_ok-end.ensures.end c.args.rank.0 c.args.ranks text (c.in_ok-feed.ensures.text c.args.rank.0 c.args.ranks [] c.in_ok-book.ensures),
    )
