use Rattle.std.proofs.Common.{arith}
use Rattle.std.proofs.lemmas.Option.{slice_get-get_or, slice_get_within}
use Rattle.rma_concurrent.proofs.ListLemmas.{from_all, from_more}
use Rattle.rma_dyn.specs.Fault.{IsOverlap}
use Rattle.rma_dyn.proofs.attaches.add_attaches.Goals as goal

pub loop-own-preserved : goal.loop-own-preserved
loop-own-preserved c =
    let list = c.args.list.now in
    let i = c.loop-own.own-index in
    from_more (IsOverlap list) list 0 i _ c.args.found.now.items c.loop-own.found.items c.add_attach.new.found.items (omega arith) (slice_get-get_or list i _ c.loop-own-test.true) c.loop-own.invariant c.in_ok-add_attach.ensures

pub returns : goal.returns
returns c =
    let list = c.args.list.now in
    let end = c.loop-own-test.false in
    from_all (IsOverlap list) list 0 c.loop-own.own-index c.args.found.now.items c.loop-own.found.items (λ x k own at is. let within = slice_get_within list k own at in (omega arith, omega arith)) c.loop-own.invariant
