use Rattle.std.proofs.Common.{◌≡◌, ◌<◌, length, ap, sym, subst, ◌∙◌, arith}
use Rattle.rma_layout.proofs.Words.{ints, copies}
use Rattle.rma_layout.specs.inside.Frames.{seen_of}
use Rattle.rma_layout.proofs.OutputLemmas.{appends_same, refuses_same}
use Rattle.rma_layout.proofs.FrameLemmas.{written_again, goes_on, is_fault}
use Rattle.rma_type.specs.declared.id.TypeId.{TypeId}
use Rattle.rma_layout.proofs.frame.Frame.again.Goals as goal

pub returns-in-Ok-clause-ok : goal.returns-in-Ok-clause-ok
returns-in-Ok-clause-ok c = λ origins within step.
    let o = c.args.output.now in
    let f = c.args.self in
    let g = c.with_row-after.result in
    let h = c.with_row-after.ensures in
    let seen = seen_of o.blocks.items f in
    let s : c.new.result ≡ c.args.stride = omega (arith, ints, c.new.ensures) in
    record {
      bytes = copies c.args.count c.args.stride c.args.stride seen;
      appends = appends_same o c.again.new.self _ _ (ap (λ x. copies c.args.count x x seen) s) c.in-Ok.ensures.ok;
      goes = goes_on origins f g h.id h.by h.from h.known (subst (λ (x : TypeId). x.0 < length origins) (sym h.old) within);
      rest = written_again origins f g h.id h.by c.args.count c.args.stride c.requires.empty step (h.next ∙ c.requires.next) (h.count ∙ c.requires.empty) seen;
    }

pub returns-in-Err-clause-fault : goal.returns-in-Err-clause-fault
returns-in-Err-clause-fault c = λ origins step.
    let o = c.args.output.now in
    let f = c.args.self in
    let g = c.with_row-after.result in
    let h = c.with_row-after.ensures in
    let seen = seen_of o.blocks.items f in
    let s : c.new.result ≡ c.args.stride = omega (arith, ints, c.new.ensures) in
    is_fault origins o f g (copies c.args.count c.args.stride c.args.stride seen) c.in-Err.error
    (written_again origins f g h.id h.by c.args.count c.args.stride c.requires.empty step (h.next ∙ c.requires.next) (h.count ∙ c.requires.empty) seen)
    (refuses_same o _ _ c.in-Err.error (ap (λ x. copies c.args.count x x seen) s) c.in-Err.ensures.fault)
