use Rattle.std.proofs.Common.{[], refl, sym, ap, subst, ◌∙◌, length, ◌<◌}
use Rattle.rma_layout.specs.inside.Frames.{seen_of}
use Rattle.rma_layout.proofs.OutputLemmas.{appends_none}
use Rattle.rma_layout.proofs.FrameLemmas.{row_written, goes_on, empty_row}
use Rattle.rma_type.specs.declared.id.TypeId.{TypeId}
use Rattle.rma_typemap.specs.declared.made.Made.{Made}
use Rattle.rma_layout.proofs.frame.Frame.go_on.Goals as goal

pub returns-then-made-eq0-clause-ok : goal.returns-then-made-eq0-clause-ok
returns-then-made-eq0-clause-ok c =
    let origins = c.args.types.now.origins in
    let o = c.args.output.now in
    let f = c.args.self in
    let g = c.past_row.result in
    let h = c.past_row.ensures in
    record {
      bytes = [];
      appends = appends_none o [] c.requires.sound refl;
      goes = goes_on origins f g h.id h.by h.from h.known (subst (λ (x : TypeId). x.0 < length origins) (sym h.old) c.requires.frame.old);
      rest = row_written origins f g h.id h.by [] (empty_row origins f.row (sym (ap (λ (m : Made). m.entries) c.made.ensures) ∙ c.if-made-eq0.true)) h.next h.count (seen_of o.blocks.items f);
    }
