use Rattle.std.proofs.Common.{◌≡◌, Some, slice_get, take, length, refl, subst}
use Rattle.std.proofs.lemmas.Option.{slice_get_read}
use Rattle.std.proofs.lemmas.List.{take_all}
use Rattle.rma_run.specs.Run.{calls_of}
use Rattle.rma_run.proofs.CallLemmas.{next_has_none}
use Rattle.rma_exposure.proofs.RunLemmas.{Represents_next}
use Rattle.rma_exposure.specs.inside.Epochs.{Represents}
use Rattle.rma_exposure.proofs.exposures.Exposures.of_calls.Goals as goal

pub loop-rank-preserved : goal.loop-rank-preserved
loop-rank-preserved c =
    let ranks = c.args.ranks.now in
    let i = c.loop-rank.rank-index in
    let own = c.rank-item.result in
    let there : slice_get ranks i ≡ Some own = slice_get_read ranks (length ranks) i own refl c.loop-rank-test.true c.rank-item.is in
    let is = c.requires.in_order i own there in
    Represents_next ranks i own c.take_all.new.self there is
    (c.in_ok-take_all.ensures (calls_of (take i ranks)) (next_has_none ranks i own there is) c.loop-rank.invariant)

pub returns : goal.returns
returns c = subst (λ l. Represents (calls_of l) c.loop-rank.exposures) (take_all c.loop-rank.rank-index c.args.ranks.now c.loop-rank-test.false) c.loop-rank.invariant
