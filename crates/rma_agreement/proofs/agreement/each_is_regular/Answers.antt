use Rattle.std.proofs.Common.{refl}
use Rattle.rma_run.specs.Run.{calls_of}
use Rattle.rma_round.specs.declared.kind.Kind.TheVariants as kind
use Rattle.rma_agreement.proofs.PlaceLemmas.{share_none}
use Rattle.rma_agreement.proofs.agreement.each_is_regular.Goals as goal

pub is_regular-requires-clause-rounds : goal.is_regular-requires-clause-rounds
is_regular-requires-clause-rounds c = c.of_kind.ensures (calls_of c.args.ranks.now) c.requires.rounds

pub is_regular-requires-clause-places : goal.is_regular-requires-clause-places
is_regular-requires-clause-places c = share_none kind.Collective (calls_of c.args.ranks.now) (λ call. refl)

pub is_regular-requires-2-clause-rounds : goal.is_regular-requires-2-clause-rounds
is_regular-requires-2-clause-rounds c = c.of_kind-2.ensures (calls_of c.args.ranks.now) c.requires.rounds

pub is_regular-requires-2-clause-places : goal.is_regular-requires-2-clause-places
is_regular-requires-2-clause-places c = share_none kind.Free (calls_of c.args.ranks.now) (λ call. refl)

pub is_regular-requires-3-clause-rounds : goal.is_regular-requires-3-clause-rounds
is_regular-requires-3-clause-rounds c = c.of_kind-3.ensures (calls_of c.args.ranks.now) c.requires.rounds

pub is_regular-requires-3-clause-places : goal.is_regular-requires-3-clause-places
is_regular-requires-3-clause-places c = share_none kind.Fence (calls_of c.args.ranks.now) (λ call. refl)

pub is_regular-requires-4-clause-rounds : goal.is_regular-requires-4-clause-rounds
is_regular-requires-4-clause-rounds c = c.of_kind-4.ensures (calls_of c.args.ranks.now) c.requires.rounds

pub is_regular-requires-4-clause-places : goal.is_regular-requires-4-clause-places
is_regular-requires-4-clause-places c = c.in_ok-share_places.ensures c.if-not-branch.false (calls_of c.args.ranks.now) c.requires.rounds
