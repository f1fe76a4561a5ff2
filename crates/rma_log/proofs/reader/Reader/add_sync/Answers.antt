use Rattle.rma_log.proofs.ElsewhereLemmas.{states_done}
use Rattle.rma_log.proofs.reader.Reader.add_sync.Goals as goal

pub add_call-requires : goal.add_call-requires
add_call-requires c =
    let known = c.requires.known in
    let done = rw c.in-Some.is at c.in_ok-call.ensures.made in
    rw (c.request.ensures, c.sync_elsewhere.ensures.request)
    (states_done c.args.self.now.lines c.args.line.now.words c.args.what c.args.requests known.0 c.args.to.now _ _ _ known.1 c.what.ensures (done known.0))

pub returns-in-Some-clause-added : goal.returns-in-Some-clause-added
returns-in-Some-clause-added c = rw c.request.ensures at c.add_call.ensures.added
