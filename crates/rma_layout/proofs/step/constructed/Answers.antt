use Rattle.std.proofs.Common.{◌≡◌, slice_get, Some, IfOk, ap, sym, subst, ◌∙◌, arith, to_z, of_z}
use Rattle.std.specs.Int.{w128}
use Rattle.std.specs.Option.{IfSome}
use Rattle.rma_typemap.specs.Bounds.{extent}
use Rattle.rma_typemap.specs.declared.made.Made.{Made}
use Rattle.rma_type.specs.Table.{old_types_in}
use Rattle.rma_type.proofs.Words.{typemaps, typemap_in}
use Rattle.rma_type.proofs.OldLemmas.{has_one_old}
use Rattle.rma_layout.proofs.Words.{ints, single_steps}
use Rattle.rma_layout.proofs.MemberLemmas.{steps_of_one, derived_by, all_before}
use Rattle.rma_layout.proofs.step.constructed.Goals as goal

pub returns-in_default : goal.returns-in_default
returns-in_default c =
    let origins = c.args.types.now.origins in
    let constructor = c.args.constructor.now in
    let old = c.old-old.result in
    let found = derived_by constructor (slice_get origins c.args.id.0) c.requires.made in
    let first : slice_get found.0 0 ≡ Some old = subst (λ o. IfSome o (λ origin. slice_get (old_types_in origin) 0 ≡ Some old)) found.1 c.old-old.ensures.value in
    let made : c.made.result.extent ≡ extent (typemap_in (typemaps origins) old) = ap (λ (m : Made). m.extent) c.made.ensures in
    let same : to_z w128 (of_z w128 c.from.result) ≡ c.made.result.extent = omega (arith, ints, c.from.ensures) in
    record {
      ok = subst (λ steps. IfOk c.single.result (λ step. step ≡ slice_get steps c.args.i))
          (ap (single_steps constructor old) (same ∙ made) ∙ sym (steps_of_one origins c.args.id constructor found.0 old (has_one_old constructor c.in_default.not-Struct) found.1 first)) c.single.ensures.ok;
      before = all_before old c.args.id.0 c.single.result c.old-old.ensures.before c.single.ensures.over;
      memory = c.single.ensures.memory;
    }
