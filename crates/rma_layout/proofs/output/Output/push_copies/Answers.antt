use Rattle.std.proofs.Common.{pos, ◌+ℤ◌, ◌*ℤ◌, OnOk, IfErr, refl, ap, sym, subst, ◌∙◌, arith}
use Rattle.rma_layout.proofs.Words.{Decides-int_eq, span, Appends, Refuses}
use Rattle.rma_layout.proofs.BytesLemmas.{copies_zero}
use Rattle.rma_layout.proofs.OutputLemmas.{appends_none, appends_same, refuses_same, copies_full, copies_step, copies_refused, next_copy, first_copy, copies_of_block, copy_of_block, zero_first}
use Rattle.rma_layout.proofs.output.Output.push_copies.Goals as goal

pub returns-then-is-clause-ok : goal.returns-then-is-clause-ok
returns-then-is-clause-ok c =
    let apart = (Decides-int_eq c.args.stride c.length.result).0 (sym c.is.ensures ∙ c.if-is.true) ∙ c.length.ensures in
    subst (λ xs. OnOk c.push.result (Appends c.args.self.now c.push.new.self xs))
    (copies_of_block c.args.count c.args.block.len c.args.block.start c.args.stride c.in_ok-len.len apart c.in_ok-len.ensures.ok) c.push.ensures.ok

pub returns-then-is-clause-fault : goal.returns-then-is-clause-fault
returns-then-is-clause-fault c =
    let apart = (Decides-int_eq c.args.stride c.length.result).0 (sym c.is.ensures ∙ c.if-is.true) ∙ c.length.ensures in
    subst (λ xs. IfErr c.push.result (Refuses c.args.self.now xs))
    (copies_of_block c.args.count c.args.block.len c.args.block.start c.args.stride c.in_ok-len.len apart c.in_ok-len.ensures.ok) c.push.ensures.fault

pub copies-init : goal.copies-init
copies-init c = record {
  written = appends_none c.args.self.now _ c.requires (copies_zero (pos 0) c.args.stride (span c.args.block.start c.args.block.len));
  start = first_copy c.args.block.start c.args.stride;
}

pub returns-then-self-eq0-clause-ok : goal.returns-then-self-eq0-clause-ok
returns-then-self-eq0-clause-ok c =
    copies_full c.args.self.now c.copies.self c.copies._i c.args.count (pos 0) c.args.stride _ (span c.args.block.start c.args.block.len) refl (omega arith) c.if-self-eq0.true c.copies.invariant.written

pub returns-in-Err-clause-fault : goal.returns-in-Err-clause-fault
returns-in-Err-clause-fault c =
    let i = c.copies._i in
    let by = pos 0 +ℤ pos i *ℤ c.args.stride in
    copies_refused c.args.self.now c.copies.self i c.args.count (pos 0) c.args.stride by (span c.args.block.start c.args.block.len) refl c.in-Err.error c.copies-test.true c.copies.invariant.written
    (refuses_same c.copies.self _ _ c.in-Err.error
    (copy_of_block by c.args.block.start c.copies.start c.args.block.len (c.copies.invariant.start ∙ ap (λ x. c.args.block.start +ℤ x) (sym (zero_first (pos i *ℤ c.args.stride))))) c.in-Err.ensures.fault)

pub copies-preserved : goal.copies-preserved
copies-preserved c =
    let i = c.copies._i in
    let by = pos 0 +ℤ pos i *ℤ c.args.stride in
    record {
      written = copies_step c.args.self.now c.copies.self i c.args.count (pos 0) c.args.stride by (span c.args.block.start c.args.block.len) refl c.push-in-copies.new.self c.copies.invariant.written
          (appends_same c.copies.self c.push-in-copies.new.self _ _
          (copy_of_block by c.args.block.start c.copies.start c.args.block.len (c.copies.invariant.start ∙ ap (λ x. c.args.block.start +ℤ x) (sym (zero_first (pos i *ℤ c.args.stride))))) c.in_default.ensures.ok);
      start = next_copy i c.args.block.start c.args.stride c.copies.start c.in_ok-start.start c.copies.invariant.start c.in_ok-start.ensures.ok;
    }
