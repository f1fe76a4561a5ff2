use Rattle.std.proofs.Common.{◌≡◌, ◌<◌, ◌-◌, ◌+ℤ◌, ◌++◌, suc, length, slice_get, Some, refl, sym, ap, subst, ◌∙◌, arith}
use Rattle.rma_layout.proofs.Words.{ints}
use Rattle.rma_layout.proofs.FrameLemmas.{first_written, goes_on, all_of_new}
use Rattle.rma_type.specs.declared.id.TypeId.{TypeId}
use Rattle.std.specs.Option.{IfSome}
use Rattle.std.specs.Prelude.{option_map}
use Rattle.rma_typemap.specs.Bounds.{extent}
use Rattle.rma_type.specs.Table.{constructor_of, ComesAfter}
use Rattle.rma_type.proofs.Words.{typemaps, typemap_in}
use Rattle.rma_layout.specs.inside.Frames.{finished, bytes_at}
use Rattle.rma_layout.proofs.frame.Frame.first_copy.Goals as goal

pub returns-clause-ok : goal.returns-clause-ok
returns-clause-ok c =
    let origins = c.args.types.now.origins in
    let f = c.args.self in
    let old = f.row.old in
    let g = c.with_row-outer.result in
    let h = c.with_row-outer.ensures in
    let inner = c.new-inner.result in
    let k = c.new-inner.ensures in
    let count : f.row.count ≡ suc (f.row.count - 1) = omega (arith, c.requires.some) in
    let at : g.row.at ≡ f.row.at +ℤ extent (typemap_in (typemaps origins) old) = omega (arith, ints, h.at, c.in_ok-sum.ensures.ok, c.requires.distance) in
    let by : inner.by ≡ f.row.at = omega (arith, ints, k.by) in (
      refl,
      record {
        goes = goes_on origins f g h.id h.by h.from h.known (subst (λ (x : TypeId). x.0 < length origins) (sym h.old) c.requires.within);
        id = subst (λ (x : TypeId). x.0 < length origins) (sym k.id) c.requires.within;
        row = subst (λ (x : TypeId). x.0 < length origins) (sym k.old) c.requires.within;
        from = k.from ∙ c.len.ensures.value;
        known = k.known;
        all = all_of_new origins inner c.in-Some.field-0.now k.next k.count
            (subst (λ (x : TypeId). Some (Some c.in-Some.field-0.now) ≡ option_map constructor_of (slice_get origins x.0)) (sym k.id) c.in-Some.ensures.value)
            (subst (λ (x : TypeId). IfSome (slice_get origins x.0) (ComesAfter x.0)) (sym k.id) c.in-Some.ensures.after);
        rest = λ seen.
            ap (λ x. finished origins g (seen ++ bytes_at origins x inner.by)) k.id ∙ ap (λ x. finished origins g (seen ++ bytes_at origins old x)) by
            ∙ first_written origins f g h.id h.by old (f.row.count - 1) f.row.at refl count refl h.next h.old h.count at seen;
      },
    )
