use Rattle.std.proofs.Common.{◌∷◌, []}
use Rattle.rma_call.specs.Call.{call_of}
use Rattle.rma_exposure.proofs.EpochLemmas.{OnOk_both}
use Rattle.rma_exposure.proofs.RunLemmas.{more_of_rank, Represents_same}
use Rattle.rma_exposure.proofs.exposures.Exposures.take.Goals as goal

pub returns-then-not-opens_or_closes : goal.returns-then-not-opens_or_closes
returns-then-not-opens_or_closes c = λ calls len are.
    Represents_same calls c.args.rank.0 (call_of c.args.call) c.args.self.now (c.opens_or_closes.ensures c.if-not-opens_or_closes.true) are

pub returns : goal.returns
returns c =
    let rank = c.args.rank in
    OnOk_both c.take.result
    (λ own others calls len are.
    more_of_rank calls rank (call_of c.args.call ∷ []) c.args.self.now.ranks.entries c.take.new.ranks.entries (own (calls rank.0) len (are rank.0)) others are)
    c.take.ensures.own c.take.ensures.others
