use Rattle.std.proofs.Common.{[], subst, ◌∙◌, arith}
use Rattle.std.proofs.lemmas.List.{take_all}
use Rattle.rma_exposure.specs.inside.Epochs.{AreOfRank}
use Rattle.rma_exposure.proofs.EpochLemmas.{no_calls_have_no_epochs}
use Rattle.rma_exposure.proofs.KnownLemmas.{none_known}
use Rattle.rma_exposure.proofs.rank_epochs.RankEpochs.of_calls.Goals as goal

pub loop-i-init : goal.loop-i-init
loop-i-init c = record {
  taken = c.new-epochs.ensures [] no_calls_have_no_epochs;
  each = c.in_ok-places.ensures.len ∙ c.whats.ensures.count;
  known = none_known c.new-epochs.result c.args.calls.now.whats c.in_ok-places.places.items c.in_ok-places.ensures.none;
}

pub take_next-requires-clause-each : goal.take_next-requires-clause-each
take_next-requires-clause-each c = c.loop-i.invariant.each

pub take_next-requires-clause-known : goal.take_next-requires-clause-known
take_next-requires-clause-known c = c.loop-i.invariant.known

pub loop-i-preserved : goal.loop-i-preserved
loop-i-preserved c = record {
  taken = c.in_ok-take_next.ensures.epochs c.loop-i.invariant.taken;
  each = c.in_ok-take_next.ensures.each;
  known = c.in_ok-take_next.ensures.known;
}

pub returns : goal.returns
returns c = subst (λ l. AreOfRank l c.loop-i.epochs) (take_all c.loop-i.i c.args.calls.now.calls (omega arith)) c.loop-i.invariant.taken
