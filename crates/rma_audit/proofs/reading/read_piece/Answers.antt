use Rattle.std.proofs.Common.{length, take}
use Rattle.rma_stream.specs.inside.Feeding.{with_piece}
use Rattle.rma_audit.proofs.ProgressLemmas.{taken_more}
use Rattle.rma_audit.proofs.reading.read_piece.Goals as goal

pub returns-in_ok-feed-in-Ok-Bytes-clause-follows : goal.returns-in_ok-feed-in-Ok-Bytes-clause-follows
returns-in_ok-feed-in-Ok-Bytes-clause-follows g c =
    let source = g.P.Pulls.source in
    let room = c.pull.new.room in
    let rank = c.in-Ok-Bytes.rank in
    let len = c.in-Ok-Bytes.len in
    let texts = c.requires.follows.0 in
    let so_far = c.requires.follows.1 in
    let pulled = rw c.in-Ok-Bytes.field-0-is at c.in-Ok-Bytes.ensures.pulled in (
      with_piece texts rank (take len room),
      taken_more (source c.args.logs.now) (source c.pull.new.self) room rank len c.args.audit.now c.feed.new.self texts pulled so_far
          (c.in_ok-feed-in-Ok-Bytes.ensures.text (length (source c.args.logs.now).logs) texts so_far.read),
    )
