use Rattle.std.proofs.Common.{sym, take, drop}
use Rattle.std.proofs.lemmas.List.{take-append-drop}
use Rattle.rma_cli.proofs.standard_output.StandardOutputSink.put.Goals as goal

pub returns-then-written-piece-clause-written : goal.returns-then-written-piece-clause-written
returns-then-written-piece-clause-written g c =
    let n = c.write_on-written.result in
    rw (← c.self.view_is) (take n c.args.piece.now, drop n c.args.piece.now, sym (take-append-drop n c.args.piece.now), c.write_on-written.ensures.bytes)
