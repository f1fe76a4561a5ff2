use Rattle.std.proofs.Common.{◌<◌, length, sym, subst, arith}
use Rattle.rma_layout.proofs.Words.{ints}
use Rattle.rma_layout.specs.inside.Frames.{seen_of}
use Rattle.rma_layout.proofs.FrameLemmas.{row_written, goes_on, is_fault, known_row}
use Rattle.rma_type.specs.declared.id.TypeId.{TypeId}
use Rattle.rma_layout.proofs.frame.Frame.copies_of_known.Goals as goal

pub returns-in-Ok-clause-ok : goal.returns-in-Ok-clause-ok
returns-in-Ok-clause-ok c = λ origins one is there.
    let o = c.args.output.now in
    let f = c.args.self in
    let g = c.past_row-after.result in
    let h = c.past_row-after.ensures in
    let bytes = known_row origins f.row c.args.extent c.args.known.by c.new-at.result c.new.result one _ is there (omega (arith, ints, c.new-at.ensures, c.in_ok-difference.ensures.ok)) (omega (arith, ints, c.new.ensures)) in
    record {
      bytes = _;
      appends = c.in-Ok.ensures.ok;
      goes = goes_on origins f g h.id h.by h.from h.known (subst (λ (x : TypeId). x.0 < length origins) (sym h.old) is.within);
      rest = row_written origins f g h.id h.by _ bytes h.next h.count (seen_of o.blocks.items f);
    }

pub returns-in-Err-clause-fault : goal.returns-in-Err-clause-fault
returns-in-Err-clause-fault c = λ origins one is there.
    let o = c.args.output.now in
    let f = c.args.self in
    let g = c.past_row-after.result in
    let h = c.past_row-after.ensures in
    let bytes = known_row origins f.row c.args.extent c.args.known.by c.new-at.result c.new.result one _ is there (omega (arith, ints, c.new-at.ensures, c.in_ok-difference.ensures.ok)) (omega (arith, ints, c.new.ensures)) in
    is_fault origins o f g _ c.in-Err.error (row_written origins f g h.id h.by _ bytes h.next h.count (seen_of o.blocks.items f)) c.in-Err.ensures.fault
