use Rattle.rma_round.specs.declared.kind.Kind.TheVariants.{Collective, Free, Fence, Moving}
use Rattle.rma_round.proofs.rounds.Rounds.take_all.Goals as goal

pub returns : goal.returns
returns c = λ calls none are. record {
  collectives_are = c.in_ok-take_all.ensures Collective calls c.args.own.now.calls none (c.in_ok-collectives.ensures Collective) are.collectives_are;
  frees_are = c.in_ok-take_all-2.ensures Free calls c.args.own.now.calls none (c.in_ok-collectives.ensures Free) are.frees_are;
  fences_are = c.in_ok-take_all-3.ensures Fence calls c.args.own.now.calls none (c.in_ok-collectives.ensures Fence) are.fences_are;
  movings_are = c.in_ok-take_all-4.ensures Moving calls c.args.own.now.calls none (c.in_ok-collectives.ensures Moving) are.movings_are;
}
