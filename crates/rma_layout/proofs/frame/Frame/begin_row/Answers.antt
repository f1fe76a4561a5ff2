use Rattle.std.proofs.Common.{◌≡◌, ◌<◌, ◌+ℤ◌, [], length, refl, sym, ap, subst, ◌∙◌, arith}
use Rattle.rma_layout.proofs.Words.{ints, append-nil}
use Rattle.rma_layout.specs.inside.Frames.{seen_of, finished}
use Rattle.rma_layout.proofs.OutputLemmas.{appends_none}
use Rattle.rma_layout.proofs.FrameLemmas.{row_begun, goes_on}
use Rattle.rma_type.specs.declared.id.TypeId.{TypeId}
use Rattle.rma_layout.proofs.frame.Frame.begin_row.Goals as goal

pub returns-clause-ok : goal.returns-clause-ok
returns-clause-ok c =
    let origins = c.args.types.now.origins in
    let o = c.args.output.now in
    let f = c.args.self in
    let g = c.with_row-begun.result in
    let h = c.with_row-begun.ensures in
    let seen = seen_of o.blocks.items f in
    let at : g.row.at ≡ f.by +ℤ c.args.row.at = omega (arith, ints, h.at, c.in_ok-at.ensures.ok) in
    let within : g.row.old.0 < length origins = subst (λ (x : TypeId). x.0 < length origins) (sym h.old) c.requires.within in
    record {
      bytes = [];
      appends = appends_none o [] c.requires.sound refl;
      goes = goes_on origins f g h.id h.by h.from h.known within;
      rest = ap (finished origins g) (append-nil seen) ∙ row_begun origins f g h.id h.by c.args.row c.requires.empty c.requires.step (h.next ∙ c.requires.next) h.old h.count at seen;
    }
