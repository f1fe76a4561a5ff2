use Rattle.std.proofs.Common.{sym}
use Rattle.rma_type.proofs.Words.{append-nil, basics_of, spread}
use Rattle.rma_typemap.proofs.SignatureLemmas.{copies_zero, copies_replicate}
use Rattle.rma_type.proofs.signature.append_run.Goals as goal

pub returns-then-count-eq0-clause-same : goal.returns-then-count-eq0-clause-same
returns-then-count-eq0-clause-same c =
    rw (c.if-count-eq0.true, copies_zero (basics_of c.args.run)) (sym (append-nil (spread c.args.done.now.items)))

pub returns-clause-same : goal.returns-clause-same
returns-clause-same c =
    let run = c.args.run in
    rw (copies_replicate c.args.count run.count run.basic) c.push.ensures.same
