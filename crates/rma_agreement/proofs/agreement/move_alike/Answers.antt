use Rattle.std.proofs.Common.{◌≡◌, Bool, true, ◌&&◌, refl, sym, ap, ◌∙◌}
use Rattle.std.specs.Prelude.{◌==◌}
use Rattle.std.proofs.lemmas.Bool.{eqb-true}
use Rattle.rma_agreement.specs.declared.argument.Movement.{Movement}
use Rattle.rma_agreement.specs.declared.argument.Movement.TheVariants.{Bcast, Scatter, Gather, Reduce, Allreduce, Allgather, Alltoall}
use Rattle.rma_agreement.specs.declared.argument.Transfer.{Transfer}
use Rattle.rma_agreement.specs.Argument.{same_movement, same_transfer}
use Rattle.rma_agreement.proofs.agreement.move_alike.Goals as goal

one_movement : (first own : Movement) → same_movement first own ≡ true → first ≡ own
one_movement (Bcast first) (Bcast own) is = ap (λ root. Bcast (record { 0 = root })) (sym (eqb-true own.0 first.0 is))
one_movement (Scatter first) (Scatter own) is = ap (λ root. Scatter (record { 0 = root })) (sym (eqb-true own.0 first.0 is))
one_movement (Gather first) (Gather own) is = ap (λ root. Gather (record { 0 = root })) (sym (eqb-true own.0 first.0 is))
one_movement (Reduce first) (Reduce own) is = ap (λ root. Reduce (record { 0 = root })) (sym (eqb-true own.0 first.0 is))
one_movement Allreduce Allreduce is = refl
one_movement Allgather Allgather is = refl
one_movement Alltoall Alltoall is = refl
one_movement first own is = absurd (let no : ⊥ = cc in no)

all_true : (a b c : Bool) → (a && b && c) ≡ true → (a ≡ true) × (b ≡ true) × (c ≡ true)
all_true true true true is = (refl, refl, refl)
all_true a b c is = absurd (let no : ⊥ = cc in no)

one_transfer : (first own : Transfer) → same_transfer first own ≡ true → first ≡ own
one_transfer first own is =
    let all = all_true (same_movement first.movement own.movement) (own.bytes == first.bytes) (own.place == first.place) is in
    ap (λ movement. record { movement = movement; bytes = first.bytes; place = first.place }) (one_movement first.movement own.movement all.0)
    ∙ ap (λ bytes. record { movement = own.movement; bytes = bytes; place = first.place }) (sym (eqb-true own.bytes first.bytes all.1))
    ∙ ap (λ place. record { movement = own.movement; bytes = own.bytes; place = place }) (sym (eqb-true own.place first.place all.2))

pub returns : goal.returns
returns c = λ alike.
    sym c.transfer_of-2.ensures ∙ one_transfer c.transfer_of-2.result c.transfer_of.result (sym c.agrees_with.ensures ∙ alike) ∙ c.transfer_of.ensures
