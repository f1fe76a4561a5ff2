use Rattle.std.proofs.Common.{◌≡◌, ◌≤◌, ℕ, ℤ, List, drop, ap, arith}
use Rattle.rma_layout.proofs.Words.{moved, bytes_of, Appends, Output}
use Rattle.rma_layout.proofs.BytesLemmas.{range, copies_zero}
use Rattle.rma_layout.proofs.OutputLemmas.{appends_none, appends_same, refuses_same, take_kept, copies_full, copies_step, copies_refused, next_copy, first_copy}
use Rattle.rma_layout.proofs.output.Output.copy_rows.Goals as goal

pub copies-init : goal.copies-init
copies-init c = record {
  written = appends_none c.args.self.now _ c.requires.sound (copies_zero c.args.at c.args.stride (range c.args.from c.args.to c.args.self.now.blocks.items));
  next = first_copy c.args.at c.args.stride;
}

pub returns-then-self-eq0-clause-ok : goal.returns-then-self-eq0-clause-ok
returns-then-self-eq0-clause-ok c =
    copies_full c.args.self.now c.copies.self c.copies._i c.args.count c.args.at c.args.stride c.copies.by (range c.args.from c.args.to c.args.self.now.blocks.items) c.copies.invariant.next (omega arith) c.if-self-eq0.true c.copies.invariant.written

-- the range is the same as before
same_range : (o p : Output) (from to : ℕ) (bytes : List ℤ) → to ≤ o.floor → Appends o p bytes → range from to p.blocks.items ≡ range from to o.blocks.items
same_range o p from to bytes le h = ap (λ bs. bytes_of (drop from bs)) (take_kept p.blocks.items o.blocks.items o.floor to le h.kept)

pub returns-in-Err-clause-fault : goal.returns-in-Err-clause-fault
returns-in-Err-clause-fault c =
    let o = c.args.self.now in
    let p = c.copies.self in
    copies_refused o p c.copies._i c.args.count c.args.at c.args.stride c.copies.by (range c.args.from c.args.to o.blocks.items) c.copies.invariant.next c.in-Err.error c.copies-test.true c.copies.invariant.written
    (refuses_same p _ _ c.in-Err.error (ap (moved c.copies.by) (same_range o p c.args.from c.args.to _ c.requires.within c.copies.invariant.written)) c.in-Err.ensures.fault)

pub copies-preserved : goal.copies-preserved
copies-preserved c =
    let o = c.args.self.now in
    let p = c.copies.self in
    record {
      written = copies_step o p c.copies._i c.args.count c.args.at c.args.stride c.copies.by (range c.args.from c.args.to o.blocks.items) c.copies.invariant.next c.copy_range.new.self c.copies.invariant.written
          (appends_same p c.copy_range.new.self _ _ (ap (moved c.copies.by) (same_range o p c.args.from c.args.to _ c.requires.within c.copies.invariant.written)) c.in_default.ensures.ok);
      next = next_copy c.copies._i c.args.at c.args.stride c.copies.by c.in_ok-by.by c.copies.invariant.next c.in_ok-by.ensures.ok;
    }
