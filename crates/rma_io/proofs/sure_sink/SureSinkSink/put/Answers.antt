use Rattle.std.proofs.Common.{◌≡◌, sym, subst, Ok}
use Rattle.rma_io.specs.Buffer.{Buffer, IsBuffer, after_passing}
use Rattle.rma_io.specs.Sink.{IsPut}
use Rattle.rma_io.specs.SureSink.{output_of}
use Rattle.rma_io.proofs.BufferLemmas.{IsPut_sure}
use Rattle.rma_io.proofs.sure_sink.SureSinkSink.put.Goals as goal

pub returns-clause-put : goal.returns-clause-put
returns-clause-put c =
    let e : c.pass.new.self ≡ after_passing c.args.piece.now c.args.self.now = cc in
    let p : IsBuffer c.args.self.now = subst IsBuffer c.self.view_is c.pass.ensures.buffer in
    subst (λ (q : Buffer). IsPut (output_of c.args.self.now) c.args.piece.now (Ok tt) (output_of q)) (sym e) (IsPut_sure _ _ p)
