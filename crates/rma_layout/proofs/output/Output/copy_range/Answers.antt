use Rattle.std.proofs.Common.{◌+ℤ◌, ap, ◌∙◌, arith}
use Rattle.rma_layout.proofs.Words.{Block, moved}
use Rattle.rma_layout.proofs.BytesLemmas.{range_none, moved_nil}
use Rattle.rma_layout.proofs.OutputLemmas.{appends_none, appends_same, refuses_same, same_block, read_kept, range_full, range_step, range_refused}
use Rattle.rma_layout.proofs.output.Output.copy_range.Goals as goal

pub range-init : goal.range-init
range-init c =
    appends_none c.args.self.now _ c.requires.sound (ap (moved c.args.by) (range_none c.args.from c.args.self.now.blocks.items) ∙ moved_nil c.args.by)

pub returns-then-self-eq0-clause-ok : goal.returns-then-self-eq0-clause-ok
returns-then-self-eq0-clause-ok c =
    let fits = c.requires.sound.floor in
    range_full c.args.self.now c.range.self c.args.by c.args.from c.range.i c.args.to c.args.self.now.blocks.items c.range.auto.i (omega (arith, c.requires.within)) (omega arith) c.if-self-eq0.true c.range.invariant

pub returns-in-Err-clause-fault : goal.returns-in-Err-clause-fault
returns-in-Err-clause-fault c =
    let o = c.args.self.now in
    let p = c.range.self in
    let b : Block = c.index-deref-i.result in
    let copy : Block = c.in_ok-copy.copy in
    let fits = c.requires.sound.floor in
    let at = read_kept p.blocks.items o.blocks.items o.floor c.range.i b (omega (arith, c.requires.within)) c.range.invariant.kept (rw c.deref.ensures at c.index-deref-i.is) in
    range_refused o p c.args.by c.args.from c.range.i c.args.to o.blocks.items c.range.auto.i (omega (arith, c.requires.within)) b c.range-test.true at c.in-Err.error c.range.invariant
    (refuses_same p _ _ c.in-Err.error (same_block copy.start (c.args.by +ℤ b.start) copy.len b.len c.in_ok-copy.ensures.start c.in_ok-copy.ensures.len) c.in-Err.ensures.fault)

pub range-preserved : goal.range-preserved
range-preserved c =
    let o = c.args.self.now in
    let p = c.range.self in
    let b : Block = c.index-deref-i.result in
    let copy : Block = c.in_ok-copy.copy in
    let fits = c.requires.sound.floor in
    let at = read_kept p.blocks.items o.blocks.items o.floor c.range.i b (omega (arith, c.requires.within)) c.range.invariant.kept (rw c.deref.ensures at c.index-deref-i.is) in
    range_step o p c.args.by c.args.from c.range.i c.args.to o.blocks.items c.range.auto.i (omega (arith, c.requires.within)) b c.range-test.true at c.push.new.self c.range.invariant
    (appends_same p c.push.new.self _ _ (same_block copy.start (c.args.by +ℤ b.start) copy.len b.len c.in_ok-copy.ensures.start c.in_ok-copy.ensures.len) c.in_default.ensures.ok)
