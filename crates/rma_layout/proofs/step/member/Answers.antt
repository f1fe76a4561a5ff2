use Rattle.std.proofs.Common.{◌≡◌, slice_get, Some, ap, sym, subst, ◌∙◌, arith, to_z, of_z}
use Rattle.std.specs.Int.{w128, w32}
use Rattle.std.specs.Option.{IfSome}
use Rattle.rma_typemap.specs.Constructors.{times}
use Rattle.rma_type.specs.Table.{old_types_in}
use Rattle.rma_layout.proofs.Words.{ints, a_row}
use Rattle.rma_layout.proofs.MemberLemmas.{member_at, past_members, steps_of_struct, steps_of_members}
use Rattle.rma_type.proofs.Words.{typemaps}
use Rattle.rma_layout.proofs.step.member.Goals as goal

pub returns-then-i-members-clause-value : goal.returns-then-i-members-clause-value
returns-then-i-members-clause-value c =
    let origins = c.args.types.now.origins in
    let found = steps_of_struct c.args.members.now (typemaps origins) (slice_get origins c.args.id.0) c.requires.members in
    sym (ap (λ steps. slice_get steps c.args.i) (steps_of_members origins c.args.id c.args.members.now found.0 found.1)
    ∙ past_members c.args.members.now found.0 c.args.i (omega arith))

pub returns-clause-value : goal.returns-clause-value
returns-clause-value c =
    let origins = c.args.types.now.origins in
    let ms = c.args.members.now in
    let m = c.index-members-i.result in
    let old = c.old.result in
    let found = steps_of_struct ms (typemaps origins) (slice_get origins c.args.id.0) c.requires.members in
    let first : slice_get found.0 c.args.i ≡ Some old = subst (λ o. IfSome o (λ origin. slice_get (old_types_in origin) c.args.i ≡ Some old)) found.1 c.old.ensures.value in
    let at : to_z w128 (of_z w128 c.from.result) ≡ m.displacement = omega (arith, ints, c.from.ensures) in
    let len : to_z w32 (of_z w32 m.length) ≡ m.length = omega (arith, ints) in
    ap (λ x. Some (a_row old c.copies.result x)) at ∙ ap (λ n. Some (a_row old n m.displacement)) (c.copies.ensures ∙ ap times len)
    ∙ sym (ap (λ steps. slice_get steps c.args.i) (steps_of_members origins c.args.id ms found.0 found.1) ∙ member_at ms found.0 c.args.i m old (omega arith) c.index-members-i.is first)
