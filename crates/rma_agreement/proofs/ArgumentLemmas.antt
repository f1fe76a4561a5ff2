-- A call agrees with itself.
use Rattle.std.proofs.Common.{◌≡◌, Bool, true, false, ◌&&◌, refl, ap, ◌∙◌, eq-eqb}
use Rattle.std.specs.Prelude.{◌==◌}
use Rattle.std.specs.Bool.{beq}
use Rattle.std.specs.Cmp.Lexicographic.{nat_list_eq_equiv}
use Rattle.rma_agreement.specs.declared.argument.Movement.{Movement}
use Rattle.rma_agreement.specs.declared.argument.Movement.TheVariants.{Bcast, Scatter, Gather, Reduce, Allreduce, Allgather, Alltoall}
use Rattle.rma_agreement.specs.declared.argument.Transfer.{Transfer}
use Rattle.rma_agreement.specs.declared.argument.Arguments.{Arguments}
use Rattle.rma_agreement.specs.declared.argument.Arguments.TheVariants.{Barrier, Creation, Fence, Moving, Nothing}
use Rattle.rma_agreement.specs.Argument.{same_arguments, same_movement, same_transfer}

same_movement_refl : (m : Movement) → same_movement m m ≡ true
same_movement_refl (Bcast root) = eq-eqb root.0 root.0 refl
same_movement_refl (Scatter root) = eq-eqb root.0 root.0 refl
same_movement_refl (Gather root) = eq-eqb root.0 root.0 refl
same_movement_refl (Reduce root) = eq-eqb root.0 root.0 refl
same_movement_refl Allreduce = refl
same_movement_refl Allgather = refl
same_movement_refl Alltoall = refl

same_transfer_refl : (t : Transfer) → same_transfer t t ≡ true
same_transfer_refl t =
    rw (same_movement_refl t.movement) (ap (λ b. b && t.place == t.place) (eq-eqb t.bytes t.bytes refl) ∙ eq-eqb t.place t.place refl)

same_words_refl : (noprecede nosucceed : Bool) → (beq noprecede noprecede && beq nosucceed nosucceed) ≡ true
same_words_refl true true = refl
same_words_refl true false = refl
same_words_refl false true = refl
same_words_refl false false = refl

pub same_arguments_refl : (a : Arguments) → same_arguments a a ≡ true
same_arguments_refl Barrier = refl
same_arguments_refl (Creation window) = nat_list_eq_equiv.refl window
same_arguments_refl (Fence noprecede nosucceed) = same_words_refl noprecede nosucceed
same_arguments_refl (Moving transfer) = same_transfer_refl transfer
same_arguments_refl Nothing = refl
