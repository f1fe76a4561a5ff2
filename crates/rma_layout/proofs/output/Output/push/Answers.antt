use Rattle.std.proofs.Common.{◌-◌, Some, refl, ap, arith}
use Rattle.rma_layout.proofs.Words.{Output}
use Rattle.rma_layout.proofs.OutputLemmas.{appends_cut, appends_block, refuses_block}
use Rattle.rma_layout.proofs.output.Output.push.Goals as goal

pub returns-then-len-eq0-clause-ok : goal.returns-then-len-eq0-clause-ok
returns-then-len-eq0-clause-ok c =
    appends_cut c.args.self.now c.args.block.start c.args.block.len c.requires (omega (arith, c.min-len.ensures))

pub returns-in-Err-clause-fault : goal.returns-in-Err-clause-fault
returns-in-Err-clause-fault c =
    refuses_block c.args.self.now c.args.block.start c.args.block.len c.min-len.result c.in-Err.error c.min-len.ensures (omega arith) c.requires c.in-Err.ensures.many c.in-Err.ensures.fault

pub returns-clause-ok : goal.returns-clause-ok
returns-clause-ok c =
    let o = c.args.self.now in
    let k = c.min-len.result in
    let new : Output = record { blocks = c.put.new.blocks; left = o.left - k; count = c.in-Ok.count; reached = Some c.in_ok-end.field-0; floor = o.floor } in
    appends_block o new c.args.block.start c.args.block.len k c.min-len.ensures (omega arith) c.requires c.in_ok-put.ensures.bytes c.in-Ok.ensures.ok (ap Some c.in_ok-end.ensures.ok)
    refl refl c.in_ok-put.ensures.kept c.in-Ok.ensures.few c.in_ok-put.ensures.within
