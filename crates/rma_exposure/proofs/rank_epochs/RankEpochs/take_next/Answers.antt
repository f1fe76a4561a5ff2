use Rattle.std.proofs.Common.{sym, subst, take, ◌∙◌}
use Rattle.rma_call.specs.Call.{what_of}
use Rattle.rma_run.proofs.WalkLemmas.{taken_there, taken_length}
use Rattle.rma_exposure.specs.inside.Epochs.{IsNeither, AreOfRank}
use Rattle.rma_exposure.proofs.EpochLemmas.{AreOfRank_same}
use Rattle.rma_exposure.proofs.KnownLemmas.{places_set}
use Rattle.rma_exposure.proofs.RunLemmas.{call_of_what}
use Rattle.rma_exposure.proofs.rank_epochs.RankEpochs.take_next.Goals as goal

pub returns-in_ok-places-clause-known : goal.returns-in_ok-places-clause-known
returns-in_ok-places-clause-known c =
    let taken = c.in_ok-places.ensures in
    places_set c.args.self.now c.take.new.self c.args.calls.now.whats c.args.places.now.items c.what_number-number.result (what_of c.what-what.result) c.in_ok-places.field-0 taken.stay c.what-what.ensures taken.place c.requires.known

pub returns-in_ok-places-clause-epochs : goal.returns-in_ok-places-clause-epochs
returns-in_ok-places-clause-epochs c = λ are.
    let own = c.args.calls.now.calls in
    let i = c.args.i in
    let (call, there, same) = call_of_what _ (what_of c.what-what.result) (sym c.what-what.ensures ∙ c.what_number-number.ensures.what) in
    subst (λ l. AreOfRank l c.take.new.self) (sym (taken_there own i call there)) (c.in_ok-places.ensures.epochs (take i own) call (taken_length own i call there) same are)

pub returns-else-opens_or_closes-clause-epochs : goal.returns-else-opens_or_closes-clause-epochs
returns-else-opens_or_closes-clause-epochs c = λ are.
    let own = c.args.calls.now.calls in
    let i = c.args.i in
    let (call, there, same) = call_of_what _ (what_of c.what-what.result) (sym c.what-what.ensures ∙ c.what_number-number.ensures.what) in
    subst (λ l. AreOfRank l c.args.self.now) (sym (taken_there own i call there))
    (AreOfRank_same (take i own) call c.args.self.now (subst IsNeither same (c.opens_or_closes.ensures c.if-opens_or_closes.false)) are)
