use Rattle.rma_round.specs.declared.kind.Kind.TheVariants.{Collective, Free, Fence, Moving}
use Rattle.rma_round.proofs.rounds.Rounds.take.Goals as goal

pub returns : goal.returns
returns c = λ calls len are. record {
  collectives_are = c.in_ok-take.ensures Collective calls len are.collectives_are;
  frees_are = c.in_ok-take-2.ensures Free calls len are.frees_are;
  fences_are = c.in_ok-take-3.ensures Fence calls len are.fences_are;
  movings_are = c.in_ok-take-4.ensures Moving calls len are.movings_are;
}
